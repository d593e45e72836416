-- The spread table: an entry by the bits of its row, and the rule, computed over the 4,096 entries.
use mathlib.Core.Path.{◌≡◌, refl, sym, ap, ◌∙◌}
use Prim.Native.Nat.{ℕ, ◌+◌, ◌-◌, ◌*◌, ◌/◌, ◌%◌, ◌≤◌, ◌<◌}
use mathlib.Core.List.{List}
use native.Mathlib.Omega.{arith}
use lib.ListN.{length, get_or, set}
use Rattle.loes.specs.Bytes.{odd}
use Rattle.records.specs.Records.{empty_record, record_of_code, next_of, rest_of}
use Rattle.records.specs.Numbers.{records_of, bits_of}
use Rattle.records.specs.Tables.{spread, Spreads}
use Rattle.join_tables.specs.Entries.{FilledFrom, spread_in, spread_by, spread_code}
use Rattle.records.proofs.Computed.{each, each_at}
use Rattle.join_tables.proofs.Filling.{ruled, set_right}

-- entry x of row f
row_code : (f x : ℕ) → x < 256 → spread_by f x ≡ spread_code (256 * f + x)
unfolding spread_code
row_code f x h =
    let a : (256 * f + x) / 256 ≡ f = omega arith in
    let b : (256 * f + x) % 256 ≡ x = omega arith in
    rw (a, b)

-- of a row whose first bit is set
pub first_set : (f x : ℕ) → 8 ≤ f → f < 16 → spread_in x 0 (4 - 2 * (f / 4 % 2 + f / 2 % 2)) (192 + 48 * (f / 4 % 2) + 12 * (f / 2 % 2) + 3 * (f % 2)) ≡ spread_by f x
unfolding spread_by
first_set f x h l =
    let a : f / 8 ≡ 1 = omega arith in
    let b : 4 - 2 * (f / 4 % 2 + f / 2 % 2) ≡ 6 - 2 * (1 + f / 4 % 2 + f / 2 % 2) = omega arith in
    rw (a, b)

-- one more entry of row f
pub row_more : (t : List ℕ) (f x v : ℕ) → length t ≡ 4096 → f < 16 → x < 256 → v ≡ spread_by f x
    → FilledFrom spread_code 2048 (256 * f + x) t → FilledFrom spread_code 2048 (256 * f + (x + 1)) (set t (256 * f + x) v)
row_more t f x v n h l e k i a b = set_right spread_code t (256 * f + x) v (omega arith) (e ∙ row_code f x l) i (λ s. k i a (omega arith))

-- entry i of the first half, from that of the row it is moved from
moved_code : (i : ℕ) → i < 2048 → spread_code (i / 256 * 512 + 256 + i % 256) / 4 ≡ spread_code i
unfolding each spread_in spread_by spread_code
moved_code = each_at (λ i. spread_code (i / 256 * 512 + 256 + i % 256) / 4) spread_code 2048 refl

-- when x entries of row f are moved: those, and all behind the row
abbrev pub Moving : ℕ → ℕ → List ℕ → Type 0
Moving f x t = (i : ℕ) → 256 * f ≤ i → i < 4096 → (i < 256 * f + 256 → i < 256 * f + x) → get_or t i 0 ≡ spread_code i

-- one more entry of row f is moved
pub moved_more : (t : List ℕ) (f x : ℕ) → length t ≡ 4096 → f < 8 → x < 256 → Moving f x t
    → Moving f (x + 1) (set t (256 * f + x) (get_or t (512 * f + 256 + x) 0 / 4))
moved_more t f x n h l k =
    let z : (256 * f + x) / 256 * 512 + 256 + (256 * f + x) % 256 ≡ 512 * f + 256 + x = omega arith in
    let e : get_or t (512 * f + 256 + x) 0 / 4 ≡ spread_code (256 * f + x) =
    ap (λ v. v / 4) (k (512 * f + 256 + x) (omega arith) (omega arith) (λ d. absurd (omega arith))) ∙ ap (λ i. spread_code i / 4) (sym z) ∙ moved_code (256 * f + x) (omega arith) in
    λ i a b c. set_right spread_code t (256 * f + x) (get_or t (512 * f + 256 + x) 0 / 4) (omega arith) e i (λ s. k i a b (λ d. let q = c d in omega arith))

-- what the loops fill is the table
pub spread_ruled : (t : List ℕ) → length t ≡ 4096 → FilledFrom spread_code 0 4096 t → Spreads t
unfolding each records_of record_of_code empty_record bits_of odd next_of rest_of spread spread_in spread_by spread_code
spread_ruled t l h = ruled _ _ spread_code 4096 refl t l (λ i b. h i (omega arith) b)
