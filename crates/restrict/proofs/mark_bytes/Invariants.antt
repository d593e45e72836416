use Rattle.restrict.specs.Flags.{member_flag}
use Rattle.restrict.proofs.Marking.{Marking}
use Rattle.restrict.proofs.mark_bytes.Given as goal

abbrev pub invariant-loop-i : goal.invariant-loop-i
invariant-loop-i l = Marking (member_flag l.members) l.initial.q l.r.0 l.n l.i l.c l.q

abbrev pub decreases-loop-i : goal.decreases-loop-i
decreases-loop-i l = l.i
