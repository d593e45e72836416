use mathlib.Core.Path.{◌≡◌}
use lib.ListN.{length}
use Rattle.join_tables.proofs.Filling.{Fours}
use Rattle.join_tables.proofs.EdgedTable.{edged_code}
use Rattle.join_tables.proofs.fill_edged.Given as goal

abbrev pub invariant-loop-i : goal.invariant-loop-i
invariant-loop-i l = record { size : length l.t ≡ 256; filled : Fours edged_code l.i l.t }
