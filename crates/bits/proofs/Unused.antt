-- The unused bits of a key: the low bits of its last byte
use mathlib.Core.Path.{◌≡◌, refl, sym, ap, ap₂, ◌∙◌}
use Prim.Native.Nat.{ℕ, zero, suc, ◌+◌, ◌-◌, ◌*◌, ◌/◌, ◌%◌, ◌^◌, ◌≤◌, ◌<◌}
use mathlib.Core.Bool.{Bool, ◌||◌, not, or-false}
use mathlib.Core.List.{[], ◌∷◌}
use native.Mathlib.Omega.{arith}
use lib.ListN.{get_or}
use lib.Pow.{pow_pos, shl_exact, shr-shr, mod-pow-add}
use lib.Dec.{eqb, eqb-suc-zero}
use Rattle.loes.specs.Bytes.{Bytes, tabulate, started, odd, bit_at, bits_in}
use Rattle.loes.specs.Keys.{any_of}
use Rattle.loes.specs.Entry.{key_bytes}
use Rattle.loes.specs.Model.{unused_set}
use Rattle.loes.proofs.Lists.{any_of_append}
use Rattle.loes.proofs.Bits.{tabulate_ext, drop_tabulate}

either_bit : (a b : ℕ) → b < 2 → (not (eqb a 0) || eqb b 1) ≡ not (eqb (a * 2 + b) 0)
either_bit zero zero h = refl
either_bit zero (suc zero) h = refl
either_bit (suc a) b h = let z : suc a * 2 + b ≡ suc (a * 2 + b + 1) = omega arith in rw (z, eqb-suc-zero, eqb-suc-zero)
either_bit zero (suc (suc b)) h = absurd (omega arith)

-- one of the k low bits of v is set
low_bits : (k v : ℕ) → any_of (λ (b : Bool). b) (tabulate (λ (j : ℕ). odd (v / 2 ^ (k - 1 - j))) k) ≡ not (eqb (v % 2 ^ k) 0)
unfolding tabulate any_of odd
low_bits zero v = let z : v % 2 ^ 0 ≡ 0 = omega arith in rw z
low_bits (suc k) v =
    let last : v / 2 ^ (suc k - 1 - k) ≡ v = let z : suc k - 1 - k ≡ 0 = omega arith in rw z (omega arith) in
    let more : (j : ℕ) → j < k → odd (v / 2 ^ (suc k - 1 - j)) ≡ odd (v / 2 / 2 ^ (k - 1 - j)) = λ j h.
    let z : suc k - 1 - j ≡ 1 + (k - 1 - j) = omega arith in rw z (ap odd (sym (shr-shr v 1 (k - 1 - j)))) in
    let s : k + 1 ≡ suc k = omega arith in
    let m : v % 2 ^ suc k ≡ v / 2 % 2 ^ k * 2 + v % 2 = rw s at (mod-pow-add v k 1) in
    rw m
    (any_of_append (λ (b : Bool). b) (tabulate (λ (j : ℕ). odd (v / 2 ^ (suc k - 1 - j))) k) (odd (v / 2 ^ (suc k - 1 - k)) ∷ [])
    ∙ ap₂ ◌||◌ (ap (any_of (λ (b : Bool). b)) (tabulate_ext _ _ k more) ∙ low_bits k (v / 2)) (or-false _ ∙ ap odd last)
    ∙ either_bit (v / 2 % 2 ^ k) (v % 2) (omega arith))

-- a power of 2 in a byte
pub shl_is : (k : ℕ) → k ≤ 7 → 1 * 2 ^ k % 256 ≡ 2 ^ k
shl_is k h = shl_exact 1 k 8 (omega arith) (omega arith) ∙ omega arith

pub shl_pos : (k : ℕ) → k ≤ 7 → 0 < 1 * 2 ^ k % 256
shl_pos k h = rw (shl_is k h) (pow_pos k)

module _ (m t : ℕ) (x : Bytes) (some : 0 < m) (size : t ≡ key_bytes m) where
  pub spare : (8 * t - m ≤ 7) × (m ≤ 8 * t)
  unfolding key_bytes started
  spare = (omega (arith, size), omega (arith, size))

  pub unused_is : unused_set m x ≡ not (eqb (get_or x (t - 1) 0 % (1 * 2 ^ (8 * t - m) % 256)) 0)
  unfolding unused_set bits_in bit_at
  unused_is =
      let k : ℕ = 8 * t - m in
      let each : (j : ℕ) → j < k → bit_at x (m + j) ≡ odd (get_or x (t - 1) 0 / 2 ^ (k - 1 - j)) = λ j h.
      let a : (m + j) / 8 ≡ t - 1 = omega (arith, spare) in
      let b : 7 - (m + j) % 8 ≡ k - 1 - j = omega (arith, spare) in
      rw (a, b) in
      rw (← size, drop_tabulate (bit_at x) m (8 * t) spare.1, tabulate_ext (λ j. bit_at x (m + j)) (λ j. odd (get_or x (t - 1) 0 / 2 ^ (k - 1 - j))) k each, shl_is k spare.0) (low_bits k (get_or x (t - 1) 0))
