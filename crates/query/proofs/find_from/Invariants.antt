use mathlib.Core.Path.{◌≡◌}
use Prim.Native.Nat.{◌-◌}
use lib.ListN.{length}
use Rattle.query.specs.Select.{numbered}
use Rattle.query.proofs.find_from.Given as goal

abbrev pub invariant-loop-at : goal.invariant-loop-at
invariant-loop-at l = numbered l.edges l.at.byte l.at.number ≡ numbered l.edges l.initial.at.byte l.initial.at.number

abbrev pub decreases-loop-at : goal.decreases-loop-at
decreases-loop-at l = length l.edges - l.at.byte
