use Rattle.loes.specs.Entry.{edges_of}
use Rattle.loes.specs.Read.{entry_in}
use Rattle.cursor.proofs.Checks.{PathChecked}
use Rattle.cursor.proofs.is_path.Given as goal

abbrev pub invariant-loop-offset : goal.invariant-loop-offset
invariant-loop-offset l = PathChecked (edges_of (entry_in l.o.bytes.now)) l.path l.record l.offset-index
