-- How long lines are.
use mathlib.Core.Path.{◌≡◌}
use Prim.Native.Nat.{ℕ, ◌+◌, ◌^◌, ◌≤◌, ◌<◌}
use native.Mathlib.Omega.{arith}
use lib.ListN.{length, length-append}
use Rattle.loes.specs.Bytes.{Bytes}
use Rattle.loes.specs.Numbers.{number_of}
use Rattle.loes.specs.declared.refusal.Refusal.{Refusal}
use Rattle.loes.specs.declared.refusal.Refusal.TheVariants.{Truncated, WrongTag, WrongLength, BadWidth, TooLarge, TrailingBytes, NotAnEncoding, BadKey, OutOfRange, RaggedBatch, UnusedBitSet, Descending, TwoWidths, ShortBuffer, BadCursor, WrongList, Overflow}
use Rattle.printing.specs.Text.{decimal, hex, width_word, count_word, edges_word, refused_word, named, numbers_line, member_line, refused_line, max_line}
use Rattle.printing.proofs.Digits.{decimal_most, length_hex}

pub length_named : (w : Bytes) (n : ℕ) → length (named w n) ≡ length w + length (decimal n)
unfolding named
length_named w n = length-append w (decimal n)

pub length_numbers : (m n b : ℕ) → length (numbers_line m n b) ≡ length (named width_word m) + length (named count_word n) + length (named edges_word b) + 1
unfolding numbers_line
length_numbers m n b = simp length-append

pub length_member : (i : ℕ) (key : Bytes) → length (member_line i key) ≡ length (decimal i) + 1 + length (hex key) + 1
unfolding member_line
length_member i key = simp length-append

pub length_refused : (k : ℕ) → length (refused_line k) ≡ length (named refused_word k) + 1
unfolding refused_line
length_refused k = simp length-append

-- a number of 64 bits has at most 20 digits
digits_most : (n : ℕ) → n < 2 ^ 64 → length (decimal n) ≤ 20
digits_most n h = decimal_most 19 n (omega arith)

-- none is longer than `max_line`
pub numbers_most : (m n b : ℕ) → m < 2 ^ 64 → n < 2 ^ 64 → b < 2 ^ 64 → length (numbers_line m n b) ≤ max_line
numbers_most m n b x y z =
    omega (arith, length_numbers m n b, length_named width_word m, length_named count_word n, length_named edges_word b, digits_most m x, digits_most n y, digits_most b z)

pub member_most : (i : ℕ) (key : Bytes) → i < 2 ^ 64 → length key ≤ 32 → length (member_line i key) ≤ max_line
member_most i key x l = omega (arith, length_member i key, digits_most i x, length_hex key)

pub refused_most : (k : ℕ) → k < 2 ^ 64 → length (refused_line k) ≤ max_line
refused_most k x = omega (arith, length_refused k, length_named refused_word k, digits_most k x)

-- a refusal's number is small
pub refusal_small : (r : Refusal) → number_of r < 2 ^ 64
refusal_small r = elim r as (λ k. number_of k < 2 ^ 64) [
  | Truncated ↦ omega arith
  | WrongTag ↦ omega arith
  | WrongLength ↦ omega arith
  | BadWidth ↦ omega arith
  | TooLarge ↦ omega arith
  | TrailingBytes ↦ omega arith
  | NotAnEncoding ↦ omega arith
  | BadKey ↦ omega arith
  | OutOfRange ↦ omega arith
  | RaggedBatch ↦ omega arith
  | UnusedBitSet ↦ omega arith
  | Descending ↦ omega arith
  | TwoWidths ↦ omega arith
  | ShortBuffer ↦ omega arith
  | BadCursor ↦ omega arith
  | WrongList ↦ omega arith
  | Overflow ↦ omega arith
]
