-- The bytes in which two words agree: the trailing zeros of their exclusive or.
use mathlib.Core.Path.{◌≡◌, sym, ap, ap₂, ◌∙◌}
use Prim.Native.Nat.{ℕ, zero, suc, ◌+◌, ◌-◌, ◌*◌, ◌/◌, ◌%◌, ◌^◌, ◌≤◌, ◌<◌}
use native.Mathlib.Omega.{arith}
use native.Mathlib.Nat.{pow-suc, mul_assoc}
use native.Mathlib.Decide.{dec_le}
use lib.ListN.{drop, get_or}
use lib.Seq.{get_or-drop}
use lib.Bits.{bit_xor, xor_self, xor_block, xor_lt}
use lib.Count.{count_trailing_zeros}
use Rattle.loes.specs.Bytes.{Bytes}
use Rattle.bits.specs.Words.{word_in}
use Rattle.bits.proofs.Words.{Small, small_from, word_cons}
use Rattle.pack.specs.Batch.{SameBytes}
use Rattle.pack.proofs.Differences.{xor_none}

trailing_even : (k n : ℕ) → n % 2 ≡ 0 → count_trailing_zeros (suc k) n ≡ suc (count_trailing_zeros k (n / 2))
unfolding count_trailing_zeros
trailing_even k n e = rw e

trailing_odd : (k n : ℕ) → n % 2 ≡ 1 → count_trailing_zeros (suc k) n ≡ 0
unfolding count_trailing_zeros
trailing_odd k n e = rw e

-- moved up by j, a number has j trailing zeros more
trailing_shift : (j w n : ℕ) → count_trailing_zeros (j + w) (n * 2 ^ j) ≡ j + count_trailing_zeros w n
trailing_shift zero w n =
    let v : 0 + w ≡ w = omega arith in
    let z : n * 2 ^ 0 ≡ n = omega arith in
    ap₂ count_trailing_zeros v z ∙ omega arith
trailing_shift (suc j) w n =
    let v : suc j + w ≡ suc (j + w) = omega arith in
    let p : n * 2 ^ suc j ≡ n * 2 ^ j * 2 = ap (λ x. n * x) (pow-suc 2 j) ∙ sym (mul_assoc n (2 ^ j) 2) in
    let h : n * 2 ^ j * 2 / 2 ≡ n * 2 ^ j = omega arith in
    ap₂ count_trailing_zeros v p ∙ trailing_even (j + w) (n * 2 ^ j * 2) (omega arith) ∙ ap (λ x. suc (count_trailing_zeros (j + w) x)) h ∙ omega (arith, trailing_shift j w n)

-- with one of the lowest j digits set, fewer than j
trailing_low : (j w h r : ℕ) → 0 < r → r < 2 ^ j → count_trailing_zeros (j + w) (h * 2 ^ j + r) < j
trailing_low zero w h r p l = absurd (omega arith)
trailing_low (suc j) w h r p l =
    let v : suc j + w ≡ suc (j + w) = omega arith in
    let k : 2 ^ suc j ≡ 2 ^ j * 2 = pow-suc 2 j in
    let m : ℕ = h * 2 ^ j * 2 + r in
    let q : h * 2 ^ suc j + r ≡ m = ap (λ x. h * x + r) k ∙ ap (λ x. x + r) (sym (mul_assoc h (2 ^ j) 2)) in
    let f : m / 2 ≡ h * 2 ^ j + r / 2 = omega arith in
    let g : count_trailing_zeros (suc j + w) (h * 2 ^ suc j + r) ≡ count_trailing_zeros (suc (j + w)) m = ap₂ count_trailing_zeros v q in
    elim (dec_le (r % 2) 0) [
      | yes y ↦
          let i = trailing_low j w h (r / 2) (omega arith) (omega (arith, k, l)) in
          let u = ap (count_trailing_zeros (j + w)) f in
          omega (arith, i, u, g, trailing_even (j + w) m (omega arith))
      | no y ↦ omega (arith, g, trailing_odd (j + w) m (omega arith))
    ]

-- one byte that agrees, before others
same_cons : (x y : Bytes) (n q : ℕ) → get_or x 0 0 ≡ get_or y 0 0 → SameBytes (drop 1 x) (drop 1 y) n q → SameBytes x y (suc n) (suc q)
same_cons x y n q e s =
    let v : 1 + q ≡ suc q = omega arith in
    let gx : get_or (drop 1 x) q 0 ≡ get_or x (suc q) 0 = get_or-drop 1 x q 0 ∙ ap (λ i. get_or x i 0) v in
    let gy : get_or (drop 1 y) q 0 ≡ get_or y (suc q) 0 = get_or-drop 1 y q 0 ∙ ap (λ i. get_or y i 0) v in
    record {
      most = omega (arith, s.most);
      each = λ i l. elim (dec_le i 0) [
        | yes h ↦ let z : i ≡ 0 = omega arith in rw z e
        | no h ↦ let z : 1 + (i - 1) ≡ i = omega arith in rw (← z) (sym (get_or-drop 1 x (i - 1) 0) ∙ s.each (i - 1) (omega arith) ∙ get_or-drop 1 y (i - 1) 0)
      ];
      differ = λ l z. s.differ (omega arith) (gx ∙ z ∙ sym gy);
    }

pub word_same : (x y : Bytes) (n : ℕ) → Small x → Small y → SameBytes x y n (count_trailing_zeros (8 * n) (bit_xor (word_in x n) (word_in y n)) / 8)
word_same x y zero s t = unfold word_in count_trailing_zeros in record { most = omega arith; each = λ i l. absurd (omega arith); differ = λ l. absurd (omega arith) }
word_same x y (suc n) s t =
    let a : ℕ = get_or x 0 0 in
    let b : ℕ = get_or y 0 0 in
    let z : ℕ = bit_xor (word_in (drop 1 x) n) (word_in (drop 1 y) n) in
    let k : 8 * suc n ≡ 8 + 8 * n = omega arith in
    let q : bit_xor (word_in x (suc n)) (word_in y (suc n)) ≡ z * 2 ^ 8 + bit_xor a b =
    ap₂ bit_xor (word_cons x n) (word_cons y n) ∙ xor_block 8 (word_in (drop 1 x) n) (word_in (drop 1 y) n) a b (s 0) (t 0) in
    rw (q, k) (elim (dec_le (bit_xor a b) 0) [
      | yes h ↦
          let e : bit_xor a b ≡ 0 = omega arith in
          let u : z * 2 ^ 8 + 0 ≡ z * 2 ^ 8 = omega arith in
          let v : (8 + count_trailing_zeros (8 * n) z) / 8 ≡ suc (count_trailing_zeros (8 * n) z / 8) = omega arith in
          rw (e, u, trailing_shift 8 (8 * n) z, v) (same_cons x y n (count_trailing_zeros (8 * n) z / 8) (xor_none a b e) (word_same (drop 1 x) (drop 1 y) n (small_from x 1 s) (small_from y 1 t)))
      | no h ↦
          let i = trailing_low 8 (8 * n) z (bit_xor a b) (omega arith) (xor_lt 8 a b (s 0) (t 0)) in
          let v : count_trailing_zeros (8 + 8 * n) (z * 2 ^ 8 + bit_xor a b) / 8 ≡ 0 = omega (arith, i) in
          rw v (record { most = omega arith; each = λ i l. absurd (omega arith); differ = λ l e. absurd (let w = ap (bit_xor a) (sym e) ∙ xor_self a in omega (arith, w)) })
    ])

-- behind bytes that agree
pub same_behind : (x y : Bytes) (t j k : ℕ) → j + 8 ≤ t → k < 8 → ((i : ℕ) → i < j → get_or x i 0 ≡ get_or y i 0) → SameBytes (drop j x) (drop j y) 8 k → SameBytes x y t (j + k)
same_behind x y t j k h l f s =
    record {
      most = omega arith;
      each = λ i q. elim (dec_le (suc i) j) [
        | yes g ↦ f i g
        | no g ↦ let z : j + (i - j) ≡ i = omega arith in rw (← z) (sym (get_or-drop j x (i - j) 0) ∙ s.each (i - j) (omega arith) ∙ get_or-drop j y (i - j) 0)
      ];
      differ = λ q e. s.differ l (get_or-drop j x k 0 ∙ e ∙ sym (get_or-drop j y k 0));
    }

pub same_eight : (x y : Bytes) (j k : ℕ) → 8 ≤ k → ((i : ℕ) → i < j → get_or x i 0 ≡ get_or y i 0) → SameBytes (drop j x) (drop j y) 8 k → (i : ℕ) → i < j + 8 → get_or x i 0 ≡ get_or y i 0
same_eight x y j k h f s i q = elim (dec_le (suc i) j) [
  | yes g ↦ f i g
  | no g ↦ let z : j + (i - j) ≡ i = omega arith in rw (← z) (sym (get_or-drop j x (i - j) 0) ∙ s.each (i - j) (omega arith) ∙ get_or-drop j y (i - j) 0)
]
