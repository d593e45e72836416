-- How far two keys in bytes agree
use mathlib.Core.Path.{◌≡◌, refl, sym, ap, ◌∙◌}
use Prim.Native.Nat.{ℕ, zero, suc, ◌+◌, ◌-◌, ◌*◌, ◌/◌, ◌%◌, ◌^◌, ◌≤◌, ◌<◌}
use mathlib.Core.Bool.{Bool, true, false, cond}
use mathlib.Core.List.{[], ◌∷◌}
use native.Mathlib.Omega.{arith}
use native.Mathlib.Decide.{dec_le}
use lib.ListN.{length, get_or}
use Rattle.loes.specs.Bytes.{Bytes, odd, bit_at, bits_in}
use Rattle.loes.specs.Keys.{Key, same_bit}
use Rattle.loes.specs.Model.{key_in}
use Rattle.loes.proofs.Bytes.{get_d_tabulate}
use Rattle.loes.proofs.Histories.{length_key}
use Rattle.pack.specs.Rising.{common_prefix}
use Rattle.pack.specs.Batch.{SameBytes, FirstDifference}

pub key_bit : (m : ℕ) (x : Bytes) (e : ℕ) → e < m → get_or (key_in m x) e false ≡ bit_at x e
unfolding key_in bits_in
key_bit m x e h = get_d_tabulate (bit_at x) m e false h

same_self : (a : Bool) → same_bit a a ≡ true
same_self false = refl
same_self true = refl

same_not : (a b : Bool) → (a ≡ b → ⊥) → same_bit a b ≡ false
same_not false false h = absurd (h refl)
same_not true true h = absurd (h refl)
same_not false true h = refl
same_not true false h = refl

-- the bits below e agree, and bit e does not or there is none
common_is : (j k : Key) (e : ℕ) → length j ≡ length k → e ≤ length j → ((x : ℕ) → x < e → get_or j x false ≡ get_or k x false)
    → (e < length j → get_or j e false ≡ get_or k e false → ⊥) → common_prefix j k ≡ e
unfolding common_prefix
common_is [] k e l h a d = omega arith
common_is (x ∷ j) [] e l h a d = absurd (omega arith)
common_is (x ∷ j) (y ∷ k) zero l h a d = rw (same_not x y (d (omega arith)))
common_is (x ∷ j) (y ∷ k) (suc e) l h a d =
    rw (a 0 (omega arith), same_self y) (ap suc (common_is j k e (omega arith) (omega arith) (λ z q. a (suc z) (omega arith)) (λ q. d (omega arith))))

pub common_le : (j k : Key) → common_prefix j k ≤ length k
unfolding common_prefix
common_le [] k = omega arith
common_le (a ∷ j) [] = omega arith
common_le (a ∷ j) (b ∷ k) =
    elim (same_bit a b) as (λ c. cond c (suc (common_prefix j k)) 0 ≤ suc (length k)) [ true ↦ omega (arith, common_le j k) | false ↦ omega arith ]

module _ (m : ℕ) (x y : Bytes) where
  common_of : (e : ℕ) → e ≤ m → ((i : ℕ) → i < e → bit_at x i ≡ bit_at y i) → (e < m → bit_at x e ≡ bit_at y e → ⊥) → e ≡ common_prefix (key_in m x) (key_in m y)
  common_of e h below at =
      let lx : length (key_in m x) ≡ m = length_key m x in
      let ly : length (key_in m y) ≡ m = length_key m y in
      sym (common_is (key_in m x) (key_in m y) e (omega arith) (omega arith)
      (λ i q. key_bit m x i (omega arith) ∙ below i q ∙ sym (key_bit m y i (omega arith)))
      (λ q z. at (omega arith) (sym (key_bit m x e (omega arith)) ∙ z ∙ key_bit m y e (omega arith))))

  module _ (t j : ℕ) (s : SameBytes x y t j) where
    bits_same : (i : ℕ) → i < 8 * j → bit_at x i ≡ bit_at y i
    unfolding bit_at
    bits_same i l = ap (λ z. odd (z / 2 ^ (7 - i % 8))) (s.each (i / 8) (omega arith))

    -- all bytes agree
    pub common_whole : m ≤ 8 * j → m ≡ common_prefix (key_in m x) (key_in m y)
    common_whole h = common_of m (omega arith) (λ i l. bits_same i (omega arith)) (λ l. absurd (omega arith))

    module _ (r : ℕ) (d : FirstDifference (get_or x j 0) (get_or y j 0) r) where
      bits_byte : (i : ℕ) → i < 8 * j + r → bit_at x i ≡ bit_at y i
      unfolding bit_at
      bits_byte i l =
          elim (dec_le (suc i) (8 * j)) [
            | yes q ↦ bits_same i q
            | no q ↦
                let z : i / 8 ≡ j = omega (arith, d.within) in
                let w : i % 8 ≡ i - 8 * j = omega (arith, d.within) in
                rw (z, w) (d.each (i - 8 * j) (omega arith))
          ]

      -- bit r of byte j is the first to differ, or lies behind the keys
      pub common_past : m ≤ 8 * j + r → m ≡ common_prefix (key_in m x) (key_in m y)
      common_past h = common_of m (omega arith) (λ i l. bits_byte i (omega arith)) (λ l. absurd (omega arith))

      pub common_within : 8 * j + r ≤ m → 8 * j + r ≡ common_prefix (key_in m x) (key_in m y)
      unfolding bit_at
      common_within h =
          let z : (8 * j + r) / 8 ≡ j = omega (arith, d.within) in
          let w : (8 * j + r) % 8 ≡ r = omega (arith, d.within) in
          common_of (8 * j + r) h bits_byte (λ l e. d.differ (rw (z, w) at e))
