use Rattle.loes.specs.Read.{entry_in}
use Rattle.cursor.proofs.Outset.{FirstTo}
use Rattle.cursor.proofs.first_path.Given as goal

abbrev pub invariant-loop-d : goal.invariant-loop-d
invariant-loop-d l = FirstTo (entry_in l.o.bytes.now) l.initial.path l.path l.record l.d
