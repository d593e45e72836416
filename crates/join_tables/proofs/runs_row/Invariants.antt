use Rattle.join_tables.proofs.RunTable.{Running}
use Rattle.join_tables.proofs.runs_row.Given as goal

abbrev pub invariant-loop-y : goal.invariant-loop-y
invariant-loop-y l = Running l.x l.y l.t
