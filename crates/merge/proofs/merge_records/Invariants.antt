use Prim.Native.Nat.{◌-◌}
use Rattle.merge.specs.Union.{LevelMerged}
use Rattle.merge.proofs.merge_records.Given as goal

-- the flags before place i are merged
abbrev pub invariant-loop-i : goal.invariant-loop-i
invariant-loop-i l = LevelMerged l.a l.b l.initial.q l.fn.from.0 l.initial.at.a.0 l.initial.at.b.0 l.initial.at.tail.0 (l.i - l.fn.from.0) l.q l.at.a.0 l.at.b.0 l.at.tail.0
