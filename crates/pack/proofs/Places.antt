-- Where the keys of a batch lie
use mathlib.Core.Path.{◌≡◌, refl, sym, ap, ap₂, ◌∙◌}
use mathlib.Core.Bool.{false}
use Prim.Native.Nat.{ℕ, zero, suc, ◌+◌, ◌-◌, ◌*◌, ◌/◌, ◌≤◌, ◌<◌}
use native.Mathlib.Omega.{arith}
use native.Mathlib.Nat.{mul-suc, mul-le-mul_left, mul-le-mul_right}
use lib.ListN.{length, take, drop, get_or, length-drop}
use lib.Seq.{length-take-le}
use Rattle.loes.specs.Bytes.{Bytes, started, bit_at}
use Rattle.loes.specs.Keys.{Key}
use Rattle.loes.specs.Entry.{key_bytes}
use Rattle.loes.specs.Model.{key_in, unused_set}
use Rattle.loes.proofs.Histories.{length_key}
use Rattle.loes.proofs.Bits.{bits_taken}
use Rattle.pack.specs.declared.batch.Batch.{Batch}
use Rattle.pack.specs.Rising.{common_prefix, first_new}
use Rattle.pack.specs.Whole.{Whole}
use Rattle.pack.specs.Batch.{key, key_at}
use Rattle.pack.proofs.Prefixes.{common_le, key_bit}

pub common_max : (m : ℕ) (x y : Bytes) → common_prefix (key_in m x) (key_in m y) ≤ m
common_max m x y = omega (arith, common_le (key_in m x) (key_in m y), length_key m y)

pub new_after : (f : ℕ → Key) (i : ℕ) → (i ≡ 0 → ⊥) → first_new f i ≡ suc (common_prefix (f (i - 1)) (f i))
unfolding first_new
new_after f zero n = absurd (n refl)
new_after f (suc i) n = let z : suc i - 1 ≡ i = omega arith in rw z

pub new_first : (f : ℕ → Key) (i : ℕ) → i ≡ 0 → 0 ≡ first_new f i
unfolding first_new
new_first f i e = rw e

pub key_taken : (m : ℕ) (x : Bytes) → key_in m (take (key_bytes m) x) ≡ key_in m x
unfolding key_in key_bytes started
key_taken m x = bits_taken x ((m + 7) / 8) m (omega arith)

pub unused_taken : (m : ℕ) (x : Bytes) → unused_set m (take (key_bytes m) x) ≡ unused_set m x
unfolding unused_set
unused_taken m x = rw (bits_taken x (key_bytes m) (8 * key_bytes m) (omega arith))

module _ (m t n : ℕ) (l : Bytes) (w : Whole m t n l) where
  -- no more keys than bytes
  pub few_keys : n ≤ length l
  unfolding key_bytes started
  few_keys =
      let p : 1 ≤ t = omega (arith, w.size, w.positive) in
      let q : 1 * n ≤ t * n = mul-le-mul_right n p in
      omega (arith, w.whole)

  pub far : (i : ℕ) → i < n → t * i + t ≤ length l
  far i h = omega (arith, w.whole, mul-le-mul_left t h, mul-suc t i)

-- the bytes of key i are the key
module _ (batch : Batch) (i : ℕ) where
  abbrev m : ℕ
  m = batch.width

  abbrev rest : Bytes
  rest = drop (key_bytes m * i) batch.bytes.now

  same_at : key_at batch i ≡ take (key_bytes m) rest
  unfolding key_at
  same_at = ap (λ t. take t (drop (t * i) batch.bytes.now)) batch.whole.size

  pub in_at : key_in m (key_at batch i) ≡ key m batch.bytes.now i
  in_at = ap (key_in m) same_at ∙ key_taken m rest

  pub unused_at : unused_set m (key_at batch i) ≡ unused_set m rest
  unused_at = ap (unused_set m) same_at ∙ unused_taken m rest

  pub bit_in : (e : ℕ) → e < m → bit_at (key_at batch i) e ≡ get_or (key m batch.bytes.now i) e false
  bit_in e h = sym (key_bit m (key_at batch i) e h) ∙ ap (λ k. get_or k e false) in_at

  pub length_at : i < batch.count → length (key_at batch i) ≡ batch.size
  unfolding key_at
  length_at h =
      let f = far m batch.size batch.count batch.bytes.now batch.whole i h in
      length-take-le batch.size (drop (batch.size * i) batch.bytes.now) (omega (arith, length-drop (batch.size * i) batch.bytes.now))

-- and that before it
pub new_at : (batch : Batch) (i r : ℕ) → (i ≡ 0 → ⊥) → r ≡ common_prefix (key_in batch.width (key_at batch (i - 1))) (key_in batch.width (key_at batch i)) → r + 1 ≡ first_new (key batch.width batch.bytes.now) i
new_at batch i r n e =
    let k = key batch.width batch.bytes.now in
    let q : r ≡ common_prefix (k (i - 1)) (k i) = e ∙ ap₂ common_prefix (in_at batch (i - 1)) (in_at batch i) in
    rw (new_after k i n) (omega arith)
