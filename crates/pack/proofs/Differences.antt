-- The first bit in which two bytes differ: the leading zeros of their exclusive or
use mathlib.Core.Path.{◌≡◌, refl, sym, ap, ◌∙◌}
use Prim.Native.Nat.{ℕ, zero, suc, ◌+◌, ◌-◌, ◌*◌, ◌/◌, ◌%◌, ◌^◌, ◌≤◌, ◌<◌}
use native.Mathlib.Omega.{arith}
use native.Mathlib.Nat.{div-eq_of_lt}
use lib.Bits.{bit_xor, differ, xor_add_and, and_le_l, and_le_r, xor_shr, xor_step, xor_lt}
use lib.Count.{count_leading_zeros, leading_top}
use lib.Pow.{pow_mono, shr_lt, shr_mono, shl-shr}
use Rattle.loes.specs.Bytes.{bit, odd}
use Rattle.loes.proofs.Bits.{bit_odd}
use Rattle.pack.specs.Batch.{FirstDifference}

pub xor_none : (a b : ℕ) → bit_xor a b ≡ 0 → a ≡ b
xor_none a b e = omega (arith, xor_add_and a b, and_le_l a b, and_le_r a b)

differ_self : (a : ℕ) → differ a a ≡ 0
differ_self zero = refl
differ_self (suc a) = differ_self a

xor_low : (a b : ℕ) → a % 2 ≡ b % 2 → bit_xor a b % 2 ≡ 0
xor_low a b e = rw (xor_step a b, e, differ_self (b % 2)) (omega arith)

pub first_difference : (p q : ℕ) → p < 256 → q < 256 → (p ≡ q → ⊥) → FirstDifference p q (count_leading_zeros 8 (bit_xor p q))
first_difference p q hp hq n = go (bit_xor p q) refl (xor_lt 8 p q hp hq)
  where
    go : (a : ℕ) → bit_xor p q ≡ a → a < 256 → FirstDifference p q (count_leading_zeros 8 a)
    go zero e h = absurd (n (xor_none p q e))
    go (suc b) e h =
        let a : ℕ = suc b in
        let t : (j : ℕ) × (count_leading_zeros 8 a + suc j ≡ 8) × (2 ^ j ≤ a) × (a < 2 ^ suc j) = leading_top 8 a (omega arith) h in
        let j : ℕ = t.0 in
        let r : ℕ = count_leading_zeros 8 a in
        let one : 1 * 2 ^ j ≡ 2 ^ j = omega arith in
        let s : 1 + j ≡ suc j = omega arith in
        let low : 1 ≤ a / 2 ^ j = rw (shl-shr 1 j) at (shr_mono {a = 1 * 2 ^ j} {b = a} j (rw one t.2)) in
        let top : a / 2 ^ j < 2 = shr_lt 1 j (rw s t.3) in
        let here : bit_xor (p / 2 ^ j) (q / 2 ^ j) ≡ 1 = sym (xor_shr p q j) ∙ ap (λ x. x / 2 ^ j) e ∙ omega arith in
        let at : 7 - r ≡ j = omega (arith, t.1) in
        record {
          within = omega (arith, t.1);
          each = λ i l.
              let up : a < 2 ^ (7 - i) = omega (arith, t.3, pow_mono {i = suc j} {j = 7 - i} (omega (arith, t.1))) in
              ap odd (xor_none (p / 2 ^ (7 - i)) (q / 2 ^ (7 - i)) (sym (xor_shr p q (7 - i)) ∙ ap (λ x. x / 2 ^ (7 - i)) e ∙ div-eq_of_lt up));
          differ = λ z.
              let w : odd (p / 2 ^ j) ≡ odd (q / 2 ^ j) = rw at at z in
              let v : bit_xor (p / 2 ^ j) (q / 2 ^ j) % 2 ≡ 0 = xor_low (p / 2 ^ j) (q / 2 ^ j) (sym (bit_odd (p / 2 ^ j)) ∙ ap bit w ∙ bit_odd (q / 2 ^ j)) in
              absurd (omega (arith, v, here));
        }
