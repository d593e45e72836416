-- The table of runs: an entry from the entry of one bit less of each, and the rule, computed over the 256 entries.
use mathlib.Core.Path.{◌≡◌, refl, sym, ap, ◌∙◌}
use Prim.Native.Nat.{ℕ, ◌+◌, ◌-◌, ◌*◌, ◌/◌, ◌%◌, ◌≤◌, ◌<◌}
use mathlib.Core.Bool.{true}
use mathlib.Core.List.{List, [], ◌∷◌}
use native.Mathlib.Omega.{arith}
use native.Mathlib.Decide.{dec_le}
use lib.ListN.{length, get_or, set}
use lib.Dec.{ltb}
use Rattle.loes.specs.Bytes.{odd}
use Rattle.loes.proofs.Tests.{yes_lt}
use Rattle.records.specs.Records.{record_of_code, record_of_flag, flag_if}
use Rattle.records.specs.Numbers.{records_of, bits_of}
use Rattle.records.specs.Tables.{either_flags, run_in, run_of, Runs}
use Rattle.records.proofs.Computed.{each, each_at}
use Rattle.join_tables.specs.Entries.{FilledFrom, run_more, run_with, run_code}
use Rattle.join_tables.proofs.Filling.{ruled, four_right}

-- the entry that turn y of row x reads, and the first that it sets, by the number 8·x + y of the turn
abbrev source : ℕ → ℕ
source i = i / 8 * 16 + i % 8

abbrev target : ℕ → ℕ
target i = i / 8 * 32 + i % 8 * 2

-- the four entries that a turn sets, and the values that it sets them to
abbrev Codes : ℕ → List ℕ
Codes i = run_code (target i) ∷ run_code (target i + 1) ∷ run_code (target i + 16) ∷ run_code (target i + 17) ∷ []

abbrev Values : ℕ → ℕ → List ℕ
Values e d = e ∷ (d + 2) ∷ (d + 1) ∷ (d + 3) ∷ []

-- these are the same: from an entry, the four of one bit more
run_four : (i : ℕ) → i < 64 → Values (run_code (source i)) (run_more (run_code (source i))) ≡ Codes i
unfolding each run_more run_with run_code
run_four = each_at (λ i. Values (run_code (source i)) (run_more (run_code (source i)))) Codes 64 refl

-- they fit
run_small : (i : ℕ) → i < 64 → ltb (run_more (run_code (source i)) + 3) 65536 ≡ true
unfolding each run_more run_with run_code
run_small = each_at (λ i. ltb (run_more (run_code (source i)) + 3) 65536) (λ i. true) 64 refl

-- the first entry's code is 0
pub run_zero : 0 ≡ run_code 0
unfolding run_more run_with run_code
run_zero = refl

-- before turn y of row x: the first entry, the rows before, and of this one's two the entries of the turns before
abbrev pub Running : ℕ → ℕ → List ℕ → Type 0
Running x y t = (get_or t 0 0 ≡ 0) × ((j : ℕ) → j < 32 * x + 32 → (32 * x ≤ j → j % 16 < 2 * y) → get_or t j 0 ≡ run_code j)

-- an entry of the two rows that turn y does not set, and that is set before the turn behind it, is set before turn y
one_of : (j t a b : ℕ) → a < 2 → b < 2 → t + 16 * a + b ≡ j → (j ≡ t → ⊥) → (j ≡ t + 1 → ⊥) → (j ≡ t + 16 → ⊥) → (j ≡ t + 17 → ⊥) → ⊥
one_of j t a b ha hb e n0 n1 n2 n3 = omega arith

before : (x y j : ℕ) → 32 * x ≤ j → j < 32 * x + 32 → j % 16 < 2 * (y + 1)
    → (j ≡ 32 * x + 2 * y → ⊥) → (j ≡ 32 * x + 2 * y + 1 → ⊥) → (j ≡ 32 * x + 2 * y + 16 → ⊥) → (j ≡ 32 * x + 2 * y + 17 → ⊥) → j % 16 < 2 * y
before x y j l b q n0 n1 n2 n3 = go (dec_le (2 * y) (j % 16))
  where
    go : Dec (2 * y ≤ j % 16) → j % 16 < 2 * y
    go (no m) = omega (arith, m)
    go (yes m) =
        let a : ℕ = j / 16 - 2 * x in
        let c : ℕ = j % 16 - 2 * y in
        absurd (one_of j (32 * x + 2 * y) a c (omega arith) (omega arith) (omega arith) n0 n1 n2 n3)

module _ (x y : ℕ) (hx : x < 8) (hy : y < 8) (t : List ℕ) (p : Running x y t) where
  reads : source (8 * x + y) ≡ 16 * x + y
  reads = omega arith

  sets : target (8 * x + y) ≡ 32 * x + 2 * y
  sets = omega arith

  -- the entry that the turn reads is there
  run_at : get_or t (16 * x + y) 0 ≡ run_code (16 * x + y)
  run_at = elim (dec_le (16 * x + y) 0) [
    | yes l ↦ let z : 16 * x + y ≡ 0 = omega arith in rw z (p.0 ∙ run_zero)
    | no l ↦ p.1 (16 * x + y) (omega arith) (λ m. omega (arith, l))
  ]

  -- the largest sum of the turn fits
  pub run_fits : get_or t (16 * x + y) 0 + get_or t (16 * x + y) 0 % 256 * 3 + 512 + 3 < 65536
  unfolding run_more
  run_fits =
      let f : run_more (run_code (source (8 * x + y))) + 3 < 65536 = yes_lt (run_more (run_code (source (8 * x + y))) + 3) 65536 (run_small (8 * x + y) (omega arith)) in
      rw run_at (rw reads at f)

  -- the four entries are set
  pub run_turn : (e d : ℕ) → length t ≡ 256 → e ≡ get_or t (16 * x + y) 0 → d ≡ e + e % 256 * 3 + 512
      → Running x (y + 1) (set (set (set (set t (32 * x + 2 * y) e) (32 * x + 2 * y + 1) (d + 2)) (32 * x + 2 * y + 16) (d + 1)) (32 * x + 2 * y + 17) (d + 3))
  unfolding run_more
  run_turn e d n ee ed =
      let z : e ≡ run_code (16 * x + y) = ee ∙ run_at in
      let w : Values e d ≡ Codes (8 * x + y) = ap (λ v. Values v d) (z ∙ ap run_code (sym reads)) ∙ ap (λ v. Values (run_code (source (8 * x + y))) v) (ed ∙ ap (λ v. v + v % 256 * 3 + 512) (z ∙ ap run_code (sym reads))) ∙ unfold run_more in run_four (8 * x + y) (omega arith) in
      let c = rw sets at w in
      let a0 : e ≡ run_code (32 * x + 2 * y) = cc in
      let a1 : d + 2 ≡ run_code (32 * x + 2 * y + 1) = cc in
      let a2 : d + 1 ≡ run_code (32 * x + 2 * y + 16) = cc in
      let a3 : d + 3 ≡ run_code (32 * x + 2 * y + 17) = cc in
      let go = four_right run_code t (32 * x + 2 * y) (32 * x + 2 * y + 1) (32 * x + 2 * y + 16) (32 * x + 2 * y + 17) e (d + 2) (d + 1) (d + 3)
      (omega arith) (omega arith) (omega arith) (omega arith) a0 a1 a2 a3 in
      (go 0 (λ n0 n1 n2 n3. p.0 ∙ run_zero) ∙ sym run_zero, λ j b l. go j (λ n0 n1 n2 n3. p.1 j b (λ m. before x y j m b (l m) n0 n1 n2 n3)))

-- what the rows fill is the table
pub run_ruled : (t : List ℕ) → length t ≡ 256 → FilledFrom run_code 0 256 t → Runs t
unfolding each run_more run_with run_code run_in run_of either_flags records_of record_of_code bits_of odd record_of_flag flag_if
run_ruled t l h = ruled _ _ run_code 256 refl t l (λ j b. h j (omega arith) b)
