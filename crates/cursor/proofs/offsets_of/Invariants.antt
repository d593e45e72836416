use Rattle.cursor.specs.Steps.{numbers}
use Rattle.cursor.proofs.Offsets.{Copied}
use Rattle.cursor.proofs.offsets_of.Given as goal

abbrev pub invariant-loop-d : goal.invariant-loop-d
invariant-loop-d l = Copied l.fn.path (numbers l.offsets) l.d
