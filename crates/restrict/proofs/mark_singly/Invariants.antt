use Rattle.restrict.specs.Flags.{member_flag}
use Rattle.restrict.proofs.Marking.{Marking, Kept}
use Rattle.restrict.proofs.mark_singly.Given as goal

abbrev pub invariant-loop-j : goal.invariant-loop-j
invariant-loop-j l = Marking (member_flag l.members) l.initial.q l.r.0 l.n l.j l.c l.q × Kept l.initial.q l.j l.y
