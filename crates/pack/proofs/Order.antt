-- The order of two keys, by the first bit in which they differ
use mathlib.Core.Path.{◌≡◌, refl, sym, ◌∙◌}
use Prim.Native.Nat.{ℕ, zero, suc, ◌-◌, ◌≤◌, ◌<◌}
use mathlib.Core.Bool.{true, false, false≢true}
use mathlib.Core.List.{[], ◌∷◌}
use native.Mathlib.Omega.{arith}
use lib.ListN.{length, get_or}
use Rattle.loes.specs.Bytes.{Bytes, bit_at}
use Rattle.loes.specs.Keys.{Key, less}
use Rattle.loes.proofs.Histories.{length_key}
use Rattle.pack.specs.Rising.{common_prefix, first_new, Rising}
use Rattle.pack.specs.declared.batch.Batch.{Batch}
use Rattle.pack.specs.Batch.{key, key_at, previous}
use Rattle.pack.proofs.Places.{bit_in, new_after}

less_at : (j k : Key) → length j ≡ length k → common_prefix j k < length j → less k j ≡ get_or j (common_prefix j k) false
unfolding less common_prefix
less_at [] k l h = absurd (omega arith)
less_at (x ∷ j) [] l h = absurd (omega arith)
less_at (false ∷ j) (false ∷ k) l h = less_at j k (omega arith) (omega arith)
less_at (true ∷ j) (true ∷ k) l h = less_at j k (omega arith) (omega arith)
less_at (false ∷ j) (true ∷ k) l h = refl
less_at (true ∷ j) (false ∷ k) l h = refl

-- the key behind has 1 there
grows_at : (j k : Key) → length j ≡ length k → common_prefix j k < length j → less k j ≡ false → get_or k (common_prefix j k) false ≡ true
unfolding less common_prefix
grows_at [] k l h e = absurd (omega arith)
grows_at (x ∷ j) [] l h e = absurd (omega arith)
grows_at (false ∷ j) (false ∷ k) l h e = grows_at j k (omega arith) (omega arith) e
grows_at (true ∷ j) (true ∷ k) l h e = grows_at j k (omega arith) (omega arith) e
grows_at (false ∷ j) (true ∷ k) l h e = refl
grows_at (true ∷ j) (false ∷ k) l h e = absurd (false≢true (sym e))

pub new_bit : (m n : ℕ) (f : ℕ → Key) → Rising m n f → (i : ℕ) → i < n → 0 < first_new f i → first_new f i ≤ m → get_or (f i) (first_new f i - 1) false ≡ true
unfolding first_new
new_bit m n f r zero h p q = absurd (omega arith)
new_bit m n f r (suc i) h p q =
    let z : suc (common_prefix (f i) (f (suc i))) - 1 ≡ common_prefix (f i) (f (suc i)) = omega arith in
    rw z (grows_at (f i) (f (suc i)) (r.wide i (omega arith) ∙ sym (r.wide (suc i) h)) (omega (arith, r.wide i (omega arith))) (r.rise i h))

less_none : (j k : Key) → length j ≡ length k → length j ≤ common_prefix j k → less k j ≡ false
unfolding less common_prefix
less_none [] [] l h = refl
less_none [] (y ∷ k) l h = absurd (omega arith)
less_none (x ∷ j) [] l h = absurd (omega arith)
less_none (false ∷ j) (false ∷ k) l h = less_none j k (omega arith) (omega arith)
less_none (true ∷ j) (true ∷ k) l h = less_none j k (omega arith) (omega arith)
less_none (false ∷ j) (true ∷ k) l h = absurd (omega arith)
less_none (true ∷ j) (false ∷ k) l h = absurd (omega arith)

less_nil : (k : Key) → less k [] ≡ false
unfolding less
less_nil [] = refl
less_nil (b ∷ k) = refl

previous_after : (f : ℕ → Key) (i : ℕ) → (i ≡ 0 → ⊥) → previous f i ≡ f (i - 1)
unfolding previous
previous_after f zero n = absurd (n refl)
previous_after f (suc i) n = let z : suc i - 1 ≡ i = omega arith in rw z

pub first_rises : (f : ℕ → Key) (i : ℕ) → i ≡ 0 → false ≡ less (f i) (previous f i)
unfolding previous
first_rises f i e = rw e (sym (less_nil (f 0)))

module _ (batch : Batch) (i new : ℕ) (n : i ≡ 0 → ⊥) (is : new ≡ first_new (key batch.width batch.bytes.now) i) where
  abbrev m : ℕ
  m = batch.width

  abbrev l : Bytes
  l = batch.bytes.now

  abbrev old : Key
  old = key m l (i - 1)

  long : length old ≡ m
  long = length_key m _

  common : suc (common_prefix old (key m l i)) ≡ new
  common = sym (is ∙ new_after (key m l) i n)

  pub some_new : 1 ≤ new
  some_new = omega (arith, common)

  same_long : length old ≡ length (key m l i)
  same_long = long ∙ sym (length_key m _)

  pub all_common : m < new → false ≡ less (key m l i) (previous (key m l) i)
  all_common h = rw (previous_after (key m l) i n) (sym (less_none old (key m l i) same_long (omega (arith, common, long))))

  pub old_bit : new ≤ m → bit_at (key_at batch (i - 1)) (new - 1) ≡ less (key m l i) (previous (key m l) i)
  old_bit h =
      let z : common_prefix old (key m l i) ≡ new - 1 = omega (arith, common) in
      let q : common_prefix old (key m l i) < length old = omega (arith, common, long) in
      rw (previous_after (key m l) i n, less_at old (key m l i) same_long q, z) (bit_in batch (i - 1) (new - 1) (omega (arith, common)))
