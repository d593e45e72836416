use Rattle.capi.proofs.Codes.{onward, written_coded}
use Rattle.capi.proofs.loes_difference.Goals as goal

pub returns : goal.returns
returns c = onward c.difference.ensures (written_coded _ _ c.from.ensures)
