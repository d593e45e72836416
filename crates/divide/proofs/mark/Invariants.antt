use Rattle.divide.proofs.Apart.{Apart}
use Rattle.divide.proofs.mark.Given as goal

abbrev pub invariant-loop-i : goal.invariant-loop-i
invariant-loop-i l = Apart 3 l.q l.r.0 l.n l.i l.c l.initial.x l.x × Apart 1 l.q l.r.0 l.n l.i l.c l.initial.y l.y × Apart 2 l.q l.r.0 l.n l.i l.c l.initial.z l.z

abbrev pub decreases-loop-i : goal.decreases-loop-i
decreases-loop-i l = l.i
