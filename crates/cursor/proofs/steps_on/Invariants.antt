use Prim.Native.Nat.{◌-◌}
use lib.ListN.{length}
use Rattle.loes.specs.Read.{entry_in}
use Rattle.cursor.proofs.Filling.{WalkSoFar}
use Rattle.cursor.proofs.steps_on.Given as goal

abbrev pub invariant-loop-out : goal.invariant-loop-out
invariant-loop-out l = WalkSoFar (entry_in l.o.bytes.now) l.from l.initial.path l.initial.out l.path l.out l.at

abbrev pub decreases-loop-out : goal.decreases-loop-out
decreases-loop-out l = length l.initial.out - l.at
