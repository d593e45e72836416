use Rattle.join_tables.specs.Entries.{part_code}
use Rattle.join_tables.proofs.Filling.{Fours}
use Rattle.join_tables.proofs.first_parts.Given as goal

abbrev pub invariant-loop-i : goal.invariant-loop-i
invariant-loop-i l = Fours part_code l.i l.t
