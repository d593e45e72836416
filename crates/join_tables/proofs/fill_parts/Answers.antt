use native.Mathlib.Omega.{arith}
use Rattle.join_tables.proofs.PartTable.{part_ruled}
use Rattle.join_tables.proofs.fill_parts.Goals as goal

pub returns : goal.returns
returns c = part_ruled c.loop-k.t c.loop-k.invariant.size (λ i a b. c.loop-k.invariant.filled i a (omega arith))
