use borrow.Author.Count.{below_more}
use native.Mathlib.Omega.{arith}
use Rattle.pack.proofs.same_from.Goals as goal

pub returns-then-x-j : goal.returns-then-x-j
returns-then-x-j c = record { most = omega arith; each = c.loop-j.invariant; differ = λ l. c.if-x-j.true }

pub loop-j-preserved : goal.loop-j-preserved
loop-j-preserved c = below_more _ _ c.loop-j.invariant c.if-x-j.false
