use Rattle.capi.proofs.Codes.{onward, weighted_coded}
use Rattle.capi.proofs.loes_difference_weighted.Goals as goal

pub returns : goal.returns
returns c = onward c.difference_weighted.ensures (weighted_coded _ _ _ c.from.ensures)
