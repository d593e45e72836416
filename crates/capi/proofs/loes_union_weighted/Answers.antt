use Rattle.capi.proofs.Codes.{onward, weighted_coded}
use Rattle.capi.proofs.loes_union_weighted.Goals as goal

pub returns : goal.returns
returns c = onward c.union_weighted.ensures (weighted_coded _ _ _ c.from.ensures)
