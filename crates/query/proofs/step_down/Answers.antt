use native.Mathlib.Omega.{arith}
use Rattle.loes.specs.Entry.{edges_of}
use Rattle.loes.specs.Read.{entry_in}
use Rattle.loes.proofs.Lists.{rank_le}
use Rattle.encoding.proofs.Opened.{opens_room}
use Rattle.query.specs.Descent.{edge_from}
use Rattle.query.proofs.step_down.Goals as goal

pub edge_from-edge-requires : goal.edge_from-edge-requires
unfolding edge_from
edge_from-edge-requires c = omega (arith, (opens_room _ _ c.args.o.opens).few, c.requires.0)

pub overflow_add-result : goal.overflow_add-result
overflow_add-result c = omega (arith, c.ones_before.ensures, (rank_le (edges_of (entry_in c.args.o.bytes.now)) c.edge_from-edge.result.0).0, c.edge_from-edge.ensures, c.requires.0, (opens_room _ _ c.args.o.opens).few)
