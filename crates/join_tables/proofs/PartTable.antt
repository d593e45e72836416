-- The table of parts: an entry from the entry of one record less, a row from those of two, and the rule, computed over the 256 entries.
use mathlib.Core.Path.{◌≡◌, refl, ap, ◌∙◌}
use Prim.Native.Nat.{ℕ, ◌+◌, ◌*◌, ◌/◌, ◌%◌, ◌≤◌, ◌<◌}
use mathlib.Core.Bool.{true}
use mathlib.Core.List.{List, [], ◌∷◌}
use native.Mathlib.Omega.{arith}
use lib.ListN.{length, get_or, set}
use lib.Dec.{ltb}
use lib.Bits.{bit_and}
use Rattle.loes.specs.Bytes.{odd}
use Rattle.loes.proofs.Tests.{yes_lt}
use Rattle.records.specs.Records.{has_edge, record_of_code, flag_of_record, first_count, second_count, is_flag}
use Rattle.records.specs.Numbers.{records_of, bits_of}
use Rattle.records.specs.Tables.{kept_by, parts_in, parts_of, Parted}
use Rattle.join_tables.specs.Entries.{FilledFrom, part_more, own_part, part_code}
use Rattle.records.proofs.Computed.{each, each_at}
use Rattle.join_tables.proofs.Filling.{ruled, set_right, Four, Fours, four_start, four_turn}

-- ---- The first sixteen
-- the values that a turn sets its entries to
abbrev Values : ℕ → List ℕ
Values d = d ∷ (d + 1114369) ∷ (d + 16846864) ∷ (d + 268505361) ∷ []

-- these are right: from an entry, the four of one record more
part_four : (i : ℕ) → i < 4 → Values (part_more (part_code i)) ≡ Four part_code i
unfolding each part_more own_part part_code
part_four = each_at (λ i. Values (part_more (part_code i))) (Four part_code) 4 refl

-- they fit
part_small : (i : ℕ) → i < 4 → ltb (part_more (part_code i) + 268505361) 4294967296 ≡ true
unfolding each part_more own_part part_code
part_small = each_at (λ i. ltb (part_more (part_code i) + 268505361) 4294967296) (λ i. true) 4 refl

-- before the first turn
pub part_start : (t : List ℕ) → length t ≡ 256 → Fours part_code 0 (set t 0 0)
unfolding part_more own_part part_code
part_start t n = four_start part_code t (omega arith) refl

-- the largest sum of a turn fits
pub part_fits : (i : ℕ) (t : List ℕ) → i < 4 → Fours part_code i t → get_or t i 0 + bit_and (get_or t i 0) 4294905840 + 268505361 < 4294967296
unfolding part_more
part_fits i t h p = rw (p i (omega arith) (omega arith)) (yes_lt _ _ (part_small i h))

-- a turn
pub part_turn : (i d : ℕ) (t : List ℕ) → length t ≡ 256 → i < 4 → Fours part_code i t → d ≡ get_or t i 0 + bit_and (get_or t i 0) 4294905840
    → Fours part_code (i + 1) (set (set (set (set t (4 * i) d) (4 * i + 1) (d + 1114369)) (4 * i + 2) (d + 16846864)) (4 * i + 3) (d + 268505361))
unfolding part_more
part_turn i d t n h p z =
    four_turn part_code i d (d + 1114369) (d + 16846864) (d + 268505361) t (omega arith) p
    (ap Values (z ∙ ap part_more (p i (omega arith) (omega arith))) ∙ part_four i h)

-- ---- The rows behind
-- an entry with two more records that have no edge
abbrev TwoMore : ℕ → ℕ
TwoMore e = e + bit_and e 4294905840 * 3

-- entry i, from those of its first two records and of its last two
part_two : (i : ℕ) → i < 256 → TwoMore (part_code (i / 16)) + part_code (i % 16) ≡ part_code i
unfolding each part_more own_part part_code
part_two = each_at (λ i. TwoMore (part_code (i / 16)) + part_code (i % 16)) part_code 256 refl

-- it fits
code_small : (i : ℕ) → i < 256 → ltb (part_code i) 4294967296 ≡ true
unfolding each part_more own_part part_code
code_small = each_at (λ i. ltb (part_code i) 4294967296) (λ i. true) 256 refl

-- entry y of row k
part_row : (k y : ℕ) → k < 16 → y < 16 → TwoMore (part_code k) + part_code y ≡ part_code (16 * k + y)
part_row k y h l =
    let a : k ≡ (16 * k + y) / 16 = omega arith in
    let b : y ≡ (16 * k + y) % 16 = omega arith in
    ap (λ i. TwoMore (part_code i) + part_code y) a ∙ ap (λ i. TwoMore (part_code ((16 * k + y) / 16)) + part_code i) b ∙ part_two (16 * k + y) (omega arith)

-- its sum fits
pub row_fits : (k y e v : ℕ) → k < 16 → y < 16 → e ≡ part_code k → v ≡ part_code y → e + bit_and e 4294905840 * 3 + v < 4294967296
row_fits k y e v h l p q = rw (p, q) (rw (part_row k y h l) (yes_lt _ _ (code_small (16 * k + y) (omega arith))))

-- one more entry of row k
pub row_more : (t : List ℕ) (k y e : ℕ) → length t ≡ 256 → 1 ≤ k → k < 16 → y < 16 → e ≡ part_code k → FilledFrom part_code 0 (16 * k + y) t
    → FilledFrom part_code 0 (16 * k + (y + 1)) (set t (16 * k + y) (e + bit_and e 4294905840 * 3 + get_or t y 0))
row_more t k y e n m h l p f =
    let q : get_or t y 0 ≡ part_code y = f y (omega arith) (omega arith) in
    let z : TwoMore e + get_or t y 0 ≡ part_code (16 * k + y) = rw (p, q) (part_row k y h l) in
    λ i a b. set_right part_code t (16 * k + y) (TwoMore e + get_or t y 0) (omega arith) z i (λ s. f i a (omega arith))

-- what the loops fill is the table
pub part_ruled : (t : List ℕ) → length t ≡ 256 → FilledFrom part_code 0 256 t → Parted t
unfolding each part_more own_part part_code parts_in parts_of kept_by records_of record_of_code bits_of odd has_edge flag_of_record first_count second_count is_flag
part_ruled t l h = ruled _ _ part_code 256 refl t l (λ i b. h i (omega arith) b)
