use Prim.Native.Nat.{◌-◌, ◌%◌, ◌≤◌}
use mathlib.Core.Path.{◌≡◌}
use Rattle.restrict.specs.Restriction.{Compacted}
use Rattle.restrict.proofs.compact_blocks.Given as goal

abbrev pub invariant-loop-i : goal.invariant-loop-i
invariant-loop-i l = Compacted l.q l.i l.initial.out l.out l.k.0 × (l.i ≤ l.r.0) × (l.i % 4 ≡ 0)

abbrev pub decreases-loop-i : goal.decreases-loop-i
decreases-loop-i l = l.r.0 - l.i
