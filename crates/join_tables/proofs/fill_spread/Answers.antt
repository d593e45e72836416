use native.Mathlib.Omega.{arith}
use Rattle.join_tables.proofs.SpreadTable.{spread_ruled}
use Rattle.join_tables.proofs.fill_spread.Goals as goal

pub returns : goal.returns
returns c = spread_ruled c.loop-f-2.t c.loop-f-2.invariant.size (λ i a b. c.loop-f-2.invariant.filled i (omega arith) b)
