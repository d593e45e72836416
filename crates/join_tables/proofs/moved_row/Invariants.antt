use Rattle.join_tables.proofs.SpreadTable.{Moving}
use Rattle.join_tables.proofs.moved_row.Given as goal

abbrev pub invariant-loop-x : goal.invariant-loop-x
invariant-loop-x l = Moving l.f l.x l.t
