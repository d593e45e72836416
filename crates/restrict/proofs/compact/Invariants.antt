use Rattle.restrict.specs.Restriction.{Compacted}
use Rattle.restrict.proofs.compact.Given as goal

abbrev pub invariant-loop-i : goal.invariant-loop-i
invariant-loop-i l = Compacted l.q l.i l.fn.out l.out l.k.0
