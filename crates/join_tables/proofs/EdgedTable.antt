-- The table of the records of a byte that have an edge: an entry from the entry of one record less, and the rule, computed over the 256 entries.
use mathlib.Core.Path.{◌≡◌, refl, ap, ◌∙◌}
use Prim.Native.Nat.{ℕ, ◌+◌, ◌*◌, ◌/◌, ◌%◌, ◌<◌}
use mathlib.Core.Bool.{true}
use mathlib.Core.List.{List, [], ◌∷◌}
use native.Mathlib.Omega.{arith}
use lib.ListN.{length, get_or, set}
use lib.Dec.{ltb}
use Rattle.loes.specs.Bytes.{odd}
use Rattle.loes.specs.Keys.{those}
use Rattle.loes.proofs.Tests.{yes_lt}
use Rattle.records.specs.Records.{has_edge, record_of_code}
use Rattle.records.specs.Numbers.{records_of}
use Rattle.records.specs.Tables.{run_in, run_of, Edged}
use Rattle.records.proofs.Computed.{each, each_at}
use Rattle.join_tables.specs.Entries.{FilledFrom, run_more, run_with}
use Rattle.join_tables.proofs.Filling.{ruled, Four, Fours, four_start, four_turn}

-- entry i, from its four records
unfoldable pub edged_code : ℕ → ℕ
edged_code i = run_with (run_with (run_with (run_with 0 (i / 64)) (i / 16 % 4)) (i / 4 % 4)) (i % 4)

-- the values that a turn sets its entries to
abbrev Values : ℕ → ℕ → List ℕ
Values e d = e ∷ (d + 1) ∷ (d + 2) ∷ (d + 3) ∷ []

-- these are right: from an entry, the four of one record more
edged_four : (i : ℕ) → i < 64 → Values (edged_code i) (run_more (edged_code i)) ≡ Four edged_code i
unfolding each run_more run_with edged_code
edged_four = each_at (λ i. Values (edged_code i) (run_more (edged_code i))) (Four edged_code) 64 refl

-- they fit
edged_small : (i : ℕ) → i < 64 → ltb (run_more (edged_code i) + 3) 65536 ≡ true
unfolding each run_more run_with edged_code
edged_small = each_at (λ i. ltb (run_more (edged_code i) + 3) 65536) (λ i. true) 64 refl

-- before the first turn
pub edged_start : (t : List ℕ) → length t ≡ 256 → Fours edged_code 0 (set t 0 0)
unfolding run_more run_with edged_code
edged_start t n = four_start edged_code t (omega arith) refl

-- the largest sum of a turn fits
pub edged_fits : (i : ℕ) (t : List ℕ) → i < 64 → Fours edged_code i t → get_or t i 0 + get_or t i 0 % 256 * 3 + 512 + 3 < 65536
unfolding run_more
edged_fits i t h p = rw (p i (omega arith) (omega arith)) (yes_lt _ _ (edged_small i h))

-- a turn
pub edged_turn : (i e d : ℕ) (t : List ℕ) → length t ≡ 256 → i < 64 → Fours edged_code i t → e ≡ get_or t i 0 → d ≡ e + e % 256 * 3 + 512
    → Fours edged_code (i + 1) (set (set (set (set t (4 * i) e) (4 * i + 1) (d + 1)) (4 * i + 2) (d + 2)) (4 * i + 3) (d + 3))
unfolding run_more
edged_turn i e d t n h p y z =
    let w : Values e d ≡ Values e (run_more e) = ap (Values e) z in
    four_turn edged_code i e (d + 1) (d + 2) (d + 3) t (omega arith) p
    (w ∙ ap (λ v. Values v (run_more v)) (y ∙ p i (omega arith) (omega arith)) ∙ edged_four i h)

-- what the loop fills is the table
pub edged_ruled : (t : List ℕ) → length t ≡ 256 → FilledFrom edged_code 0 256 t → Edged t
unfolding each run_more run_with edged_code run_in run_of those has_edge records_of record_of_code odd
edged_ruled t l h = ruled _ _ edged_code 256 refl t l (λ i b. h i (omega arith) b)
