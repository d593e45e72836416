-- A byte of which only the first k bits are used: its rules, computed once over all bytes and k.
use mathlib.Core.Path.{◌≡◌, refl, sym, ap, ◌∙◌}
use Prim.Native.Nat.{ℕ, ◌+◌, ◌-◌, ◌/◌, ◌%◌, ◌^◌, ◌≤◌, ◌<◌}
use mathlib.Core.Bool.{Bool, true, false, cond}
use mathlib.Core.List.{List, []}
use native.Mathlib.Omega.{arith}
use lib.ListN.{get_or}
use lib.Dec.{eqb}
use lib.Bits.{bit_and, bit_or}
use lib.Count
use Rattle.loes.specs.Bytes.{bit, odd, tabulate, bits_value}
use Rattle.loes.specs.Edges.{ones}
use Rattle.bits.specs.Tables.{bits8, none_empty}
use Rattle.bits.proofs.Table.{pointwise}
use Rattle.bits.proofs.Counts.{count_byte}

-- the first k bits of byte x
unfoldable pub front_bits : ℕ → ℕ → List Bool
front_bits x k = tabulate (λ (j : ℕ). odd (x / 2 ^ (7 - j))) k

-- the values of a rule at every byte and every k to 8
unfoldable all : (ℕ → ℕ → ℕ) → List (List ℕ)
all f = tabulate (λ (x : ℕ). tabulate (f x) 9) 256

at_pair : (f g : ℕ → ℕ → ℕ) → all f ≡ all g → (x k : ℕ) → x < 256 → k ≤ 8 → f x k ≡ g x k
unfolding all
at_pair f g e x k h q = pointwise 0 (f x) (g x) 9 (pointwise [] (λ (x : ℕ). tabulate (f x) 9) (λ (x : ℕ). tabulate (g x) 9) 256 e x h) k (omega arith)

-- packed with the others clear, they are the byte without its low bits
pub front_byte : (x k : ℕ) → x < 256 → k ≤ 8 → bits_value (tabulate (λ (j : ℕ). get_or (front_bits x k) j false) 8) 0 ≡ x - x % 2 ^ (8 - k)
unfolding all front_bits tabulate bits_value odd
front_byte = at_pair (λ x k. bits_value (tabulate (λ (j : ℕ). get_or (front_bits x k) j false) 8) 0) (λ x k. x - x % 2 ^ (8 - k)) refl

-- ---- If its other bits are clear
abbrev if_clear : (ℕ → ℕ → ℕ) → ℕ → ℕ → ℕ
if_clear f x k = cond (eqb (x % 2 ^ (8 - k)) 0) (f x k) 0

at_clear : (f g : ℕ → ℕ → ℕ) → all (if_clear f) ≡ all (if_clear g)
    → (x k : ℕ) → x < 256 → k ≤ 8 → x % 2 ^ (8 - k) ≡ 0 → f x k ≡ g x k
at_clear f g e x k h q z =
    let y : eqb (x % 2 ^ (8 - k)) 0 ≡ true = ap (λ n. eqb n 0) z in
    rw y at (at_pair (if_clear f) (if_clear g) e x k h q)

-- its set bits are those of the first k,
front_count : (x k : ℕ) → x < 256 → k ≤ 8 → x % 2 ^ (8 - k) ≡ 0 → ones (bits8 x) ≡ ones (front_bits x k)
unfolding all front_bits tabulate odd ones bits8
front_count = at_clear (λ x k. ones (bits8 x)) (λ x k. ones (front_bits x k)) refl

pub front_ones : (x k : ℕ) → x < 256 → k ≤ 8 → x % 2 ^ (8 - k) ≡ 0 → Count.ones x ≡ ones (front_bits x k)
front_ones x k h q z = sym (count_byte x h) ∙ front_count x k h q z

-- and with the others set it keeps the mask of a byte exactly if none of its first records is empty
abbrev filled : ℕ → ℕ → ℕ
filled x k = x + (2 ^ (8 - k) - 1)

front_mask : (x k : ℕ) → x < 256 → k ≤ 8 → x % 2 ^ (8 - k) ≡ 0
    → bit (eqb (bit_and 85 (bit_or (filled x k) (filled x k / 2))) 85) ≡ bit (none_empty (front_bits x k))
unfolding all front_bits tabulate odd none_empty
front_mask = at_clear (λ x k. bit (eqb (bit_and 85 (bit_or (filled x k) (filled x k / 2))) 85)) (λ x k. bit (none_empty (front_bits x k))) refl

bit_eq : (a b : Bool) → bit a ≡ bit b → a ≡ b
bit_eq true true e = refl
bit_eq false false e = refl
bit_eq true false e = absurd (omega arith)
bit_eq false true e = absurd (omega arith)

pub front_full : (x k : ℕ) → x < 256 → k ≤ 8 → x % 2 ^ (8 - k) ≡ 0 → eqb (bit_and 85 (bit_or (filled x k) (filled x k / 2))) 85 ≡ none_empty (front_bits x k)
front_full x k h q z = bit_eq (eqb (bit_and 85 (bit_or (filled x k) (filled x k / 2))) 85) (none_empty (front_bits x k)) (front_mask x k h q z)
