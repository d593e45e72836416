use Rattle.join.proofs.Joins.{cut_held, cut_sealed}
use Rattle.join.proofs.joined.JoinedEdges.whole.Goals as goal

pub returns-clause-only : goal.returns-clause-only
returns-clause-only c = cut_sealed _ _ _ c.args.self.joined _ c.bytes_for.ensures.0 c.requires

pub returns-clause-same : goal.returns-clause-same
returns-clause-same c = cut_held _ _ _ c.args.self.joined _ c.bytes_for.ensures.0
