use Rattle.capi.proofs.Codes.{onward, membership_coded}
use Rattle.capi.proofs.loes_contains.Goals as goal

pub returns : goal.returns
returns c = onward c.contains.ensures (membership_coded _ c.from.ensures)
