use Rattle.capi.proofs.Codes.{onward, bound_coded}
use Rattle.capi.proofs.loes_lower_bound.Goals as goal

pub returns : goal.returns
returns c = onward c.lower_bound.ensures (bound_coded _ c.from.ensures)
