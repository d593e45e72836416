use Rattle.capi.proofs.Codes.{onward, written_coded}
use Rattle.capi.proofs.loes_pack.Goals as goal

pub returns : goal.returns
returns c = onward c.pack.ensures (written_coded _ _ c.from.ensures)
