-- Set bits by their number: in a list, and in bytes from a start on.
use mathlib.Core.Path.{◌≡◌, refl, sym, ap, ◌∙◌}
use Prim.Native.Nat.{ℕ, zero, suc, ◌+◌, ◌-◌, ◌*◌, ◌/◌, ◌^◌, ◌≤◌, ◌<◌}
use mathlib.Core.Bool.{Bool, true, false, false≢true}
use mathlib.Core.List.{List, [], ◌∷◌, ◌++◌}
use native.Mathlib.Omega.{arith}
use native.Mathlib.Decide.{dec_le}
use native.Mathlib.Numerals.{add-one}
use lib.ListN.{length, drop, get_or, take-append-drop}
use Rattle.loes.specs.Bytes.{Bytes, odd, bits_in}
use Rattle.loes.specs.Edges.{ones, rank}
use Rattle.loes.proofs.Lists.{ones_append, ones_le}
use Rattle.loes.proofs.Bytes.{length_tabulate}
use Rattle.bits.specs.Tables.{select, bits8, place_of}
use Rattle.bits.proofs.Counts.{byte_more, ones_more}
use Rattle.loes.proofs.Bits.{length_bits_in}
use Rattle.query.specs.Select.{numbered, InByte}
use Rattle.query.proofs.BitLists.{take_bits}

-- ---- In a list
-- a set bit is found by its number, the set bits before it
pub select_at : (e : List Bool) (o : ℕ) → get_or e o false ≡ true → select e (rank e o) ≡ o
unfolding select rank ones
select_at [] o h = absurd (false≢true h)
select_at (true ∷ e) zero h = refl
select_at (true ∷ e) (suc o) h = ap suc (select_at e o h)
select_at (false ∷ e) zero h = absurd (false≢true h)
select_at (false ∷ e) (suc o) h = ap suc (select_at e o h)

pub select_le : (e : List Bool) (k : ℕ) → select e k ≤ length e
unfolding select
select_le [] k = omega arith
select_le (true ∷ e) zero = omega arith
select_le (true ∷ e) (suc k) = omega (arith, select_le e k)
select_le (false ∷ e) k = omega (arith, select_le e k)

pub select_front : (a b : List Bool) (k : ℕ) → k < ones a → select (a ++ b) k ≡ select a k
unfolding select ones
select_front [] b k h = absurd (omega arith)
select_front (true ∷ a) b zero h = refl
select_front (true ∷ a) b (suc k) h = ap suc (select_front a b k (omega arith))
select_front (false ∷ a) b k h = ap suc (select_front a b k h)

select_back : (a b : List Bool) (k : ℕ) → select (a ++ b) (ones a + k) ≡ length a + select b k
unfolding select ones
select_back [] b k = let z : 0 + k ≡ k = omega arith in rw z (omega arith)
select_back (true ∷ a) b k = let z : suc (ones a) + k ≡ suc (ones a + k) = omega arith in rw z (ap suc (select_back a b k) ∙ omega arith)
select_back (false ∷ a) b k = ap suc (select_back a b k) ∙ omega arith

-- ---- In bytes
bits_byte : (l : Bytes) (i : ℕ) → bits_in l (8 * (i + 1)) ≡ bits_in l (8 * i) ++ bits8 (get_or l i 0)
bits_byte l i = rw (add-one i) (byte_more l i)

ones_byte : (l : Bytes) (i : ℕ) → ones (bits_in l (8 * (i + 1))) ≡ ones (bits_in l (8 * i)) + ones (bits8 (get_or l i 0))
ones_byte l i = rw (bits_byte l i) (ones_append (bits_in l (8 * i)) (bits8 (get_or l i 0)))

pub byte_few : (x : ℕ) → ones (bits8 x) ≤ 8
unfolding bits8
byte_few x = let z = ones_le (bits8 x) in omega (arith, z, length_tabulate (λ (j : ℕ). odd (x / 2 ^ (7 - j))) 8)

bits_rest : (l : Bytes) (a n : ℕ) → a ≤ n → bits_in l n ≡ bits_in l a ++ drop a (bits_in l n)
bits_rest l a n h = sym (take-append-drop a (bits_in l n)) ∙ ap (λ x. x ++ drop a (bits_in l n)) (take_bits l a n h)

pub ones_mono : (l : Bytes) (a n : ℕ) → a ≤ n → ones (bits_in l a) ≤ ones (bits_in l n)
ones_mono l a n h = let z = ap ones (bits_rest l a n h) ∙ ones_append (bits_in l a) (drop a (bits_in l n)) in omega (arith, z)

-- more bits behind do not matter
pub select_more : (l : Bytes) (a n k : ℕ) → a ≤ n → k < ones (bits_in l a) → select (bits_in l n) k ≡ select (bits_in l a) k
select_more l a n k h c = ap (λ x. select x k) (bits_rest l a n h) ∙ select_front (bits_in l a) (drop a (bits_in l n)) k c

module _ (l : Bytes) (i k : ℕ) where
  -- the search goes on to the next byte
  pub in_bytes : numbered l i k < ones (bits_in l (8 * length l)) → i < length l
  unfolding numbered
  in_bytes h = elim (dec_le (suc i) (length l)) [
    | yes y ↦ y
    | no y ↦ absurd (let z = ones_mono l (8 * length l) (8 * i) (omega arith) in omega (arith, z, h))
  ]

  pub next_byte : (c : ℕ) → c ≡ ones (bits8 (get_or l i 0)) → c ≤ k → numbered l (i + 1) (k - c) ≡ numbered l i k
  unfolding numbered
  next_byte c e h = omega (arith, ones_byte l i, e)

  -- or ends in this one
  pub found_byte : (n : ℕ) → InByte l n i k → 8 * i + place_of (get_or l i 0) k ≡ select (bits_in l (8 * length l)) n
  unfolding numbered
  found_byte n (h, q, z) =
      let b : numbered l i k < ones (bits_in l (8 * (i + 1))) = omega (arith, ones_byte l i, q) in
      rw (← z)
      (sym (select_more l (8 * (i + 1)) (8 * length l) (ones (bits_in l (8 * i)) + k) (omega arith) b
      ∙ ap (λ y. select y (ones (bits_in l (8 * i)) + k)) (bits_byte l i)
      ∙ select_back (bits_in l (8 * i)) (bits8 (get_or l i 0)) k ∙ ap (λ y. y + select (bits8 (get_or l i 0)) k) (length_bits_in l (8 * i))))

-- ---- Eight bytes at a time
module _ (l : Bytes) (i k : ℕ) where
  -- with eight bytes behind the one that the search ends in
  pub in_words : numbered l i k < ones (bits_in l (8 * (length l - 8))) → i + 8 < length l
  unfolding numbered
  in_words h = elim (dec_le (suc (i + 8)) (length l)) [
    | yes y ↦ y
    | no y ↦ absurd (let z = ones_mono l (8 * (length l - 8)) (8 * i) (omega arith) in omega (arith, z, h))
  ]

  pub next_word : (c : ℕ) → c ≡ ones (bits_in (drop i l) 64) → c ≤ k → numbered l (i + 8) (k - c) ≡ numbered l i k
  unfolding numbered
  next_word c e h =
      let z : 8 * (i + 8) ≡ 8 * i + 64 = omega arith in
      omega (arith, ap (λ n. ones (bits_in l n)) z, ones_more l i 64, e)
