-- Which of four records are kept, as a number of the test `kept_by`.
use Rattle.std.specs.Prelude.{ℕ}
use Rattle.records.specs.declared.kinds.Kept.{Kept}
use Rattle.records.specs.declared.kinds.Kept.TheVariants.{Edged, FirstOnly, SecondOnly, Both}

abbrev pub number_of_kept : Kept → ℕ
number_of_kept Edged = 0
number_of_kept FirstOnly = 1
number_of_kept SecondOnly = 2
number_of_kept Both = 3
