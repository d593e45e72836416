-- What the rule of a table says of one entry.
use mathlib.Core.Path.{◌≡◌, ap}
use mathlib.Core.Bool.{true}
use Prim.Native.Nat.{ℕ, ◌+◌, ◌*◌, ◌/◌, ◌%◌, ◌^◌, ◌≤◌, ◌<◌}
use mathlib.Core.List.{List, [], ◌∷◌, map}
use native.Mathlib.Omega.{arith}
use lib.ListN.{length, get_or, length-map}
use lib.Dec.{ltb, eqb}
use Rattle.loes.specs.Bytes.{Bytes}
use Rattle.loes.specs.Keys.{those}
use Rattle.loes.specs.Edges.{Record}
use Rattle.loes.proofs.Tests.{yes_lt, yes_eq}
use Rattle.loes.proofs.Tree.{bit_le}
use Rattle.records.specs.Records.{has_edge, Flag, flag_of_record, record_of_flag, first_count, second_count}
use Rattle.records.specs.Numbers.{records_of, bits_of, Short}
use Rattle.records.specs.Tables.{spread, kept_by, parts_in, parts_of, either_flags, run_in, run_of, Spreads, Parted, Runs, Edged}
use Rattle.records.proofs.Codes.{cases4}
use Rattle.records.proofs.Numbers.{length_run}

-- ---- Spread
pub spread_facts : {t : Bytes} → Spreads t → (f x : ℕ) → f < 16 → x < 256 → records_of 4 (get_or t (256 * f + x) 0) ≡ spread (bits_of 4 f) (records_of 4 x)
spread_facts {t} p f x hf hx =
    let q : (256 * f + x) / 256 ≡ f = omega arith in
    let r : (256 * f + x) % 256 ≡ x = omega arith in
    rw (q, r) at (p.rule (256 * f + x) (omega arith))

-- ---- Parts
pub first_le : (l : List Flag) → first_count l ≤ length l
unfolding first_count
first_le [] = omega arith
first_le (f ∷ l) = omega (arith, first_le l, bit_le f.in_first)

pub second_le : (l : List Flag) → second_count l ≤ length l
unfolding second_count
second_le [] = omega arith
second_le (f ∷ l) = omega (arith, second_le l, bit_le f.in_second)

four_flags : (x : ℕ) → length (map flag_of_record (records_of 4 x)) ≡ 4
four_flags x = rw length-map (length_run 4 x)

module _ {t : List ℕ} (p : Parted t) (x : ℕ) (h : x < 256) where
  pub firsts_told : bits_of 4 (get_or t x 0 / 256 % 16) ≡ map (λ (z : Record). z.on_one) (records_of 4 x)
  unfolding parts_in parts_of
  firsts_told = ap (λ k. k.firsts) (p.rule x h)

  pub seconds_told : bits_of 4 (get_or t x 0 / 16 % 16) ≡ map (λ (z : Record). z.on_zero) (records_of 4 x)
  unfolding parts_in parts_of
  seconds_told = ap (λ k. k.seconds) (p.rule x h)

  pub first_told : (get_or t x 0 % 16 ≡ first_count (map flag_of_record (records_of 4 x))) × (get_or t x 0 % 16 ≤ 4)
  unfolding parts_in parts_of
  first_told =
      let e : get_or t x 0 % 16 ≡ first_count (map flag_of_record (records_of 4 x)) = ap (λ k. k.first) (p.rule x h) in
      (e, omega (arith, e, first_le (map flag_of_record (records_of 4 x)), four_flags x))

  pub second_told : (get_or t x 0 / 4096 % 16 ≡ second_count (map flag_of_record (records_of 4 x))) × (get_or t x 0 / 4096 % 16 ≤ 4)
  unfolding parts_in parts_of
  second_told =
      let e : get_or t x 0 / 4096 % 16 ≡ second_count (map flag_of_record (records_of 4 x)) = ap (λ k. k.second) (p.rule x h) in
      (e, omega (arith, e, second_le (map flag_of_record (records_of 4 x)), four_flags x))

  pub kept_told : (w : ℕ) → w < 4 → bits_of 4 (get_or t x 0 / 2 ^ (16 + 4 * w) % 16) ≡ map (kept_by w) (records_of 4 x)
  unfolding parts_in parts_of
  kept_told w l =
      let e = p.rule x h in
      cases4 (λ w. bits_of 4 (get_or t x 0 / 2 ^ (16 + 4 * w) % 16) ≡ map (kept_by w) (records_of 4 x)) (ap (λ k. k.kept0) e) (ap (λ k. k.kept1) e) (ap (λ k. k.kept2) e) (ap (λ k. k.kept3) e) w l

-- ---- Runs
-- what is read in an entry is a run
abbrev pub Told : ℕ → List Record → Type 0
Told h l = (records_of (h / 256 / 2) (h % 256) ≡ l) × Short 4 (h % 256) (h / 256)

run_facts : (h : ℕ) (l : List Record) → run_in h ≡ run_of l → Told h l
unfolding run_in run_of
run_facts h l e =
    let f : ltb (h % 256) (2 ^ (h / 256)) ≡ true = ap (λ r. r.fits) e in
    let g : ltb (h / 256) 9 ≡ true = ap (λ r. r.few) e in
    let w : eqb (2 * (h / 256 / 2)) (h / 256) ≡ true = ap (λ r. r.whole) e in
    (ap (λ r. r.records) e, (yes_lt (h % 256) (2 ^ (h / 256)) f, omega (arith, yes_lt (h / 256) 9 g), yes_eq (2 * (h / 256 / 2)) (h / 256) w))

pub run_told : {t : List ℕ} → Runs t → (x y : ℕ) → x < 16 → y < 16 → Told (get_or t (16 * x + y) 0) (map record_of_flag (either_flags (bits_of 4 x) (bits_of 4 y)))
run_told {t} p x y hx hy =
    let q : (16 * x + y) / 16 ≡ x = omega arith in
    let r : (16 * x + y) % 16 ≡ y = omega arith in
    run_facts (get_or t (16 * x + y) 0) (map record_of_flag (either_flags (bits_of 4 x) (bits_of 4 y))) (rw (q, r) at (p.rule (16 * x + y) (omega arith)))

pub edged_told : {t : List ℕ} → Edged t → (x : ℕ) → x < 256 → Told (get_or t x 0) (those has_edge (records_of 4 x))
edged_told {t} p x h = run_facts (get_or t x 0) (those has_edge (records_of 4 x)) (p.rule x h)
