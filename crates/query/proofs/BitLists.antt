-- Bits in bytes and set bits in a list, one more at a time.
use mathlib.Core.Path.{◌≡◌, refl, sym, ap, ◌∙◌}
use Prim.Native.Nat.{ℕ, zero, suc, ◌+◌, ◌≤◌, ◌<◌}
use mathlib.Core.Bool.{Bool, true, false, false≢true}
use mathlib.Core.List.{List, [], ◌∷◌, ◌++◌}
use native.Mathlib.Omega.{arith}
use native.Mathlib.Decide.{le_ind, dec_le}
use lib.ListN.{length, take, get_or, get_or-eq_default}
use lib.Seq.{take-append-le, take_all}
use mir.Val.{bool_byte}
use Rattle.loes.specs.Bytes.{Bytes, bit, tabulate, bit_at, bits_in}
use Rattle.loes.specs.Edges.{ones, rank}
use Rattle.loes.proofs.Bits.{length_bits_in}

pub up : (n : ℕ) → suc n ≡ n + 1
up n = omega arith

pub byte_bit : (b : Bool) → bool_byte b ≡ bit b
byte_bit false = refl
byte_bit true = refl

pub bits_suc : (l : Bytes) (n : ℕ) → bits_in l (suc n) ≡ bits_in l n ++ bit_at l n ∷ []
unfolding bits_in tabulate
bits_suc l n = refl

pub take_bits : (l : Bytes) (o n : ℕ) → o ≤ n → take o (bits_in l n) ≡ bits_in l o
take_bits l o n h =
    le_ind (λ (j : ℕ). take o (bits_in l j) ≡ bits_in l o) (take_all o (bits_in l o) (omega (arith, length_bits_in l o)))
    (λ j g e. ap (take o) (bits_suc l j) ∙ take-append-le o (bits_in l j) (bit_at l j ∷ []) (omega (arith, g, length_bits_in l j)) ∙ e)
    n h

-- a set bit lies in the list, and counts
pub set_below : (e : List Bool) (o : ℕ) → get_or e o false ≡ true → o < length e
set_below e o h = elim (dec_le (length e) o) [ yes y ↦ absurd (false≢true (sym (get_or-eq_default e false y) ∙ h)) | no y ↦ omega arith ]

pub ones_less : (e : List Bool) (o : ℕ) → get_or e o false ≡ true → rank e o < ones e
unfolding rank ones
ones_less [] o h = absurd (false≢true h)
ones_less (true ∷ e) zero h = omega arith
ones_less (true ∷ e) (suc o) h = omega (arith, ones_less e o h)
ones_less (false ∷ e) zero h = absurd (false≢true h)
ones_less (false ∷ e) (suc o) h = ones_less e o h
