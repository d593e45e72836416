-- A number's bytes: those of fewer bytes are the last of those of more.
use Rattle.std.proofs.Common.{◌≡◌, ℕ, zero, suc, ◌+◌, ◌-◌, ◌/◌, ◌%◌, ◌≤◌, [], ◌∷◌, ◌++◌, length, drop, refl, ap, ◌∙◌, append_assoc, arith}
use mathlib.Core.List.{append-nil}
use lib.Seq.{drop_at}
use Rattle.loes.specs.Bytes.{Bytes, big_endian}
use Rattle.loes.proofs.Bytes.{length_big_endian}

-- the j bytes before the last k of j + k
before_last : ℕ → ℕ → ℕ → Bytes
before_last j zero n = big_endian j n
before_last j (suc k) n = before_last j k (n / 256)

length_before : (j k n : ℕ) → length (before_last j k n) ≡ j
unfolding before_last
length_before j zero n = length_big_endian j n
length_before j (suc k) n = length_before j k (n / 256)

cut : (j k w n : ℕ) → j + k ≡ w → big_endian w n ≡ before_last j k n ++ big_endian k n
unfolding before_last big_endian
cut j zero w n e = let z : w ≡ j = omega arith in rw (z, append-nil) refl
cut j (suc k) zero n e = absurd (omega arith)
cut j (suc k) (suc w) n e = rw (cut j k w (n / 256) (omega arith)) (append_assoc (before_last j k (n / 256)) (big_endian k (n / 256)) (n % 256 ∷ []))

-- eight bytes as they are computed
eight_bytes : (n : ℕ) → n / 72057594037927936 % 256 ∷ n / 281474976710656 % 256 ∷ n / 1099511627776 % 256 ∷ n / 4294967296 % 256 ∷ n / 16777216 % 256 ∷ n / 65536 % 256 ∷ n / 256 % 256 ∷ n % 256 ∷ []
    ≡ big_endian 8 n
unfolding big_endian
eight_bytes n =
    let e2 : n / 65536 ≡ n / 256 / 256 = omega arith in
    let e3 : n / 16777216 ≡ n / 65536 / 256 = omega arith in
    let e4 : n / 4294967296 ≡ n / 16777216 / 256 = omega arith in
    let e5 : n / 1099511627776 ≡ n / 4294967296 / 256 = omega arith in
    let e6 : n / 281474976710656 ≡ n / 1099511627776 / 256 = omega arith in
    let e7 : n / 72057594037927936 ≡ n / 281474976710656 / 256 = omega arith in
    rw (e7, e6, e5, e4, e3, e2) refl

-- the last k of eight
pub last_bytes : (k n : ℕ) → k ≤ 8
    → drop (8 - k) (n / 72057594037927936 % 256 ∷ n / 281474976710656 % 256 ∷ n / 1099511627776 % 256 ∷ n / 4294967296 % 256 ∷ n / 16777216 % 256 ∷ n / 65536 % 256 ∷ n / 256 % 256 ∷ n % 256 ∷ [])
    ≡ big_endian k n
last_bytes k n h =
    ap (drop (8 - k)) (eight_bytes n ∙ cut (8 - k) k 8 n (omega arith)) ∙ drop_at (before_last (8 - k) k n) (big_endian k n) (8 - k) (length_before (8 - k) k n)
