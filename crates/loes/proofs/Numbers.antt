-- Numbers in bytes: what was written is read, and bytes are the numbers that are read in them.
use mathlib.Core.Path.{◌≡◌, refl, sym, ap, ◌∙◌}
use Prim.Native.Nat.{ℕ, zero, suc, ◌+◌, ◌-◌, ◌*◌, ◌/◌, ◌%◌, ◌^◌, ◌≤◌, ◌<◌}
use mathlib.Core.List.{[], ◌∷◌, ◌++◌, append_assoc}
use native.Mathlib.Omega.{arith}
use native.Mathlib.Decide.{dec_le}
use native.Mathlib.Nat.{mul_comm}
use lib.ListN.{length, take, drop, get_or, length-drop}
use lib.Seq.{take_at, drop_at, drop-drop, take_all, take-suc, take-add, length-take-le}
use Rattle.loes.specs.Bytes.{Bytes, big_endian, big_endians, bytes_value, number_at}
use Rattle.loes.proofs.Bytes.{length_big_endian, length_big_endians}

-- ---- Written, then read
pub value_snoc : (l : Bytes) (x acc : ℕ) → bytes_value (l ++ x ∷ []) acc ≡ 256 * bytes_value l acc + x
unfolding bytes_value
value_snoc [] x acc = refl
value_snoc (y ∷ l) x acc = value_snoc l x (256 * acc + y)

pub value_big_endian : (w n : ℕ) → n < 256 ^ w → bytes_value (big_endian w n) 0 ≡ n
unfolding big_endian
value_big_endian zero n h = unfold bytes_value in omega arith
value_big_endian (suc w) n h = rw (value_snoc, value_big_endian w (n / 256) (omega arith)) (omega arith)

-- a number at a place
pub number_at_lem : (w n : ℕ) (l x : Bytes) (at : ℕ) → n < 256 ^ w → drop at l ≡ big_endian w n ++ x → number_at w l at ≡ n
unfolding number_at
number_at_lem w n l x at h e = rw (e, take_at (big_endian w n) x w (length_big_endian w n)) (value_big_endian w n h)

-- number i of those that begin at a place
pub numbers_at : (w : ℕ) (f : ℕ → ℕ) (n i : ℕ) (l x : Bytes) (at : ℕ) → i < n → f i < 256 ^ w → drop at l ≡ big_endians w f n ++ x
    → number_at w l (at + w * i) ≡ f i
unfolding big_endians
numbers_at w f zero i l x at h s e = absurd (omega arith)
numbers_at w f (suc n) i l x at h s e =
    let a : drop at l ≡ big_endians w f n ++ (big_endian w (f n) ++ x) = e ∙ append_assoc (big_endians w f n) (big_endian w (f n)) x in
    elim (dec_le (suc i) n) [
      | yes k ↦ numbers_at w f n i l (big_endian w (f n) ++ x) at k s a
      | no k ↦
          let z : i ≡ n = omega arith in
          let q : length (big_endians w f n) ≡ w * n = length_big_endians w f n ∙ mul_comm n w in
          let d : drop (at + w * n) l ≡ big_endian w (f n) ++ x =
          sym (drop-drop (w * n) at l) ∙ ap (drop (w * n)) a ∙ drop_at (big_endians w f n) (big_endian w (f n) ++ x) (w * n) q in
          rw z (number_at_lem w (f n) l x (at + w * n) (rw z at s) d)
    ]

-- ---- Read, so they are these bytes
abbrev pub AllBytes : Bytes → Type 0
AllBytes [] = Unit {0}
AllBytes (x ∷ l) = (x < 256) × AllBytes l

pub bytes_at : (l : Bytes) (i : ℕ) → AllBytes l → i < length l → get_or l i 0 < 256
bytes_at [] i h k = absurd (omega arith)
bytes_at (x ∷ l) zero h k = h.0
bytes_at (x ∷ l) (suc i) h k = bytes_at l i h.1 (omega arith)

pub bytes_take : (n : ℕ) (l : Bytes) → AllBytes l → AllBytes (take n l)
bytes_take zero l h = tt
bytes_take (suc n) [] h = tt
bytes_take (suc n) (x ∷ l) h = (h.0, bytes_take n l h.1)

pub bytes_drop : (n : ℕ) (l : Bytes) → AllBytes l → AllBytes (drop n l)
bytes_drop zero l h = h
bytes_drop (suc n) [] h = tt
bytes_drop (suc n) (x ∷ l) h = bytes_drop n l h.1

pub big_endian_value : (w : ℕ) (y : Bytes) → length y ≡ w → AllBytes y → big_endian w (bytes_value y 0) ≡ y
unfolding big_endian
big_endian_value zero [] l h = refl
big_endian_value zero (x ∷ y) l h = absurd (omega arith)
big_endian_value (suc w) y l h =
    let a : Bytes = take w y in
    let z : ℕ = get_or y w 0 in
    let s : y ≡ a ++ z ∷ [] = sym (take_all (suc w) y (omega arith)) ∙ take-suc y w 0 (omega arith) in
    let v : bytes_value y 0 ≡ 256 * bytes_value a 0 + z = ap (λ x. bytes_value x 0) s ∙ value_snoc a z 0 in
    let k : z < 256 = bytes_at y w h (omega arith) in
    let q : bytes_value y 0 / 256 ≡ bytes_value a 0 = omega (arith, v, k) in
    let r : bytes_value y 0 % 256 ≡ z = omega (arith, v, k) in
    rw (q, r, big_endian_value w a (length-take-le w y (omega arith)) (bytes_take w y h)) (sym s)

-- w bytes at a place are the number that is read there
pub number_is : (w : ℕ) (l : Bytes) (at : ℕ) → at + w ≤ length l → AllBytes l → take w (drop at l) ≡ big_endian w (number_at w l at)
unfolding number_at
number_is w l at r h =
    let d : length (drop at l) ≡ length l - at = length-drop at l in
    sym (big_endian_value w (take w (drop at l)) (length-take-le w (drop at l) (omega arith)) (bytes_take w (drop at l) (bytes_drop at l h)))

-- and so are n numbers in a row
pub numbers_are : (w n : ℕ) (g : ℕ → ℕ) (l : Bytes) (at : ℕ) → at + n * w ≤ length l → AllBytes l
    → ((i : ℕ) → i < n → number_at w l (at + w * i) ≡ g i) → take (n * w) (drop at l) ≡ big_endians w g n
unfolding big_endians
numbers_are w zero g l at r h e = let z : 0 * w ≡ 0 = omega arith in rw z
numbers_are w (suc n) g l at r h e =
    let p : suc n * w ≡ n * w + w = omega arith in
    let c : w * n ≡ n * w = mul_comm w n in
    let i : take (n * w) (drop at l) ≡ big_endians w g n = numbers_are w n g l at (omega arith) h (λ i k. e i (omega arith)) in
    let v : number_at w l (at + n * w) ≡ g n = rw c at (e n (omega arith)) in
    rw (p, take-add (n * w) w (drop at l), i, drop-drop (n * w) at l, number_is w l (at + n * w) (omega arith) h, v)
