use Rattle.cursor.specs.Steps.{numbers}
use Rattle.cursor.proofs.Offsets.{Copied}
use Rattle.cursor.proofs.numbers_of.Given as goal

abbrev pub invariant-loop-d : goal.invariant-loop-d
invariant-loop-d l = Copied (numbers l.fn.c.offsets) l.path l.d
