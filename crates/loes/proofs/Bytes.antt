-- Lengths and entries of tables, numbers in bytes and packed bits.
use mathlib.Core.Path.{◌≡◌, refl, ap₂}
use Prim.Native.Nat.{ℕ, zero, suc, ◌+◌, ◌*◌, ◌/◌, ◌%◌, ◌<◌}
use mathlib.Core.Bool.{Bool}
use mathlib.Core.List.{List, [], ◌∷◌, ◌++◌}
use native.Mathlib.Omega.{arith}
use native.Mathlib.Decide.{dec_le}
use lib.ListN.{length, get_or, length-append, get_or-append}
use lib.Seq.{get_or_at}
use Rattle.loes.specs.Limits.{head_bytes}
use Rattle.loes.specs.Bytes.{tabulate, big_endian, big_endians, started, byte_of, pack_bits}
use Rattle.loes.specs.Encode.{field}
use Rattle.loes.proofs.Tree.{length_snoc}

pub append_inj : {A : Type 0} (a b x y : List A) → length a ≡ length b → a ++ x ≡ b ++ y → (a ≡ b) × (x ≡ y)
append_inj [] [] x y l e = (refl, e)
append_inj [] (c ∷ b) x y l e = absurd (omega arith)
append_inj (c ∷ a) [] x y l e = absurd (omega arith)
append_inj (c ∷ a) (d ∷ b) x y l e =
    let h : c ≡ d = cc in
    let t : a ++ x ≡ b ++ y = cc in
    let r : (a ≡ b) × (x ≡ y) = append_inj a b x y (omega arith) t in
    (ap₂ ◌∷◌ h r.0, r.1)

pub length_big_endian : (w n : ℕ) → length (big_endian w n) ≡ w
unfolding big_endian
length_big_endian zero n = refl
length_big_endian (suc w) n = rw (length_snoc (big_endian w (n / 256)) (n % 256), length_big_endian w (n / 256))

-- ---- tables
pub length_tabulate : {A : Type 0} (f : ℕ → A) (n : ℕ) → length (tabulate f n) ≡ n
unfolding tabulate
length_tabulate f zero = refl
length_tabulate f (suc n) = rw (length_snoc (tabulate f n) (f n), length_tabulate f n)

pub get_d_tabulate : {A : Type 0} (f : ℕ → A) (n i : ℕ) (d : A) → i < n → get_or (tabulate f n) i d ≡ f i
unfolding tabulate
get_d_tabulate f zero i d h = absurd (omega arith)
get_d_tabulate f (suc n) i d h =
    elim (dec_le (suc i) n) [
      | yes l ↦ let m : i < length (tabulate f n) = rw (length_tabulate f n) l in rw (get_or-append (tabulate f n) (f n ∷ []) d i m) (get_d_tabulate f n i d l)
      | no l ↦ let q : i ≡ n = omega arith in rw q (get_or_at (tabulate f n) (f n) [] d n (length_tabulate f n))
    ]

pub length_big_endians : (w : ℕ) (f : ℕ → ℕ) (n : ℕ) → length (big_endians w f n) ≡ n * w
unfolding big_endians
length_big_endians w f zero = omega arith
length_big_endians w f (suc n) = rw (length-append (big_endians w f n) (big_endian w (f n)), length_big_endians w f n, length_big_endian w (f n)) (omega arith)

-- ---- bits
pub length_packed : (e : List Bool) → length (pack_bits e) ≡ started 8 (length e)
unfolding pack_bits
length_packed e = length_tabulate (byte_of e) (started 8 (length e))

-- ---- fields
pub field_length : (t : ℕ) (b : List ℕ) → length (field t b) ≡ head_bytes + length b
unfolding field
field_length t b = rw (length-append (big_endian 2 (length b)) b, length_big_endian 2 (length b)) (omega arith)
