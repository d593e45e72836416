use Rattle.build.proofs.Fields.{sealed_small}
use Rattle.join.proofs.joined.JoinedEdges.members.Goals as goal

pub members_of-requires : goal.members_of-requires
members_of-requires c = (c.whole.ensures.only.holds, sealed_small _ _ _ c.whole.ensures.only)
