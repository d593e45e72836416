use Rattle.loes.specs.Entry.{edges_of}
use Rattle.loes.specs.Read.{entry_in}
use Rattle.cursor.proofs.Checks.{MovedTo}
use Rattle.cursor.proofs.move_on.Given as goal

abbrev pub invariant-loop-d : goal.invariant-loop-d
invariant-loop-d l = MovedTo (edges_of (entry_in l.o.bytes.now)) l.o.encoding.width l.level l.initial.path l.path l.d
