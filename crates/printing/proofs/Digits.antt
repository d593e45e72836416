-- Decimal digits: those that std puts, and how many there are. Hexadecimal digits.
use mathlib.Core.Path.{◌≡◌, refl, ap, ◌∙◌}
use Prim.Native.Nat.{ℕ, zero, suc, ◌+◌, ◌*◌, ◌/◌, ◌%◌, ◌^◌, ◌≤◌, ◌<◌}
use mathlib.Core.Bool.{Bool, true, false, cond}
use mathlib.Core.List.{[], ◌∷◌, ◌++◌}
use native.Mathlib.Omega.{arith}
use native.Mathlib.Nat.{pow-suc}
use native.Mathlib.Numerals.{add-one}
use lib.ListN.{length, take, get_or, length-append}
use lib.Seq.{length-take-le, take-suc}
use lib.Dec.{ltb}
use Rattle.std.specs.Fmt as std
use Rattle.std.proofs.lemmas.Fmt.{decimal_digit, decimal_step}
use Rattle.loes.specs.Bytes.{Bytes}
use Rattle.loes.proofs.Tests.{yes_lt, no_lt}
use Rattle.printing.specs.Text.{last_digits, decimal, hex_digit, hex}

digits_last : (f n : ℕ) → n < f → n < 2 ^ 64 → std.decimal n ≡ last_digits f n
unfolding last_digits
digits_last zero n h w = absurd (omega arith)
digits_last (suc f) n h w = go (ltb n 10) refl (digits_last f)
  where
    go : (b : Bool) → ltb n 10 ≡ b → ((n : ℕ) → n < f → n < 2 ^ 64 → std.decimal n ≡ last_digits f n)
        → std.decimal n ≡ cond (ltb n 10) [] (last_digits f (n / 10)) ++ (48 + n % 10) ∷ []
    go true e again =
        let l : n < 10 = yes_lt n 10 e in
        let m : n % 10 ≡ n = omega arith in
        rw (e, m) (decimal_digit n l)
    go false e again =
        let l : 10 ≤ n = no_lt n 10 e in
        rw e (decimal_step n l w ∙ ap (λ l. l ++ (48 + n % 10) ∷ []) (again (n / 10) (omega arith) (omega arith)))

-- what std writes for a number
pub digits_decimal : (n : ℕ) → n < 2 ^ 64 → std.decimal n ≡ decimal n
unfolding decimal
digits_decimal n w = digits_last (suc n) n (omega arith) w

-- no more digits than the power of 10 that a number is below
last_most : (f k n : ℕ) → n < 10 ^ suc k → length (last_digits f n) ≤ suc k
unfolding last_digits
last_most zero k n h = omega arith
last_most (suc f) k n h = go k (ltb n 10) refl h (last_most f)
  where
    go : (k : ℕ) (b : Bool) → ltb n 10 ≡ b → n < 10 ^ suc k → ((k n : ℕ) → n < 10 ^ suc k → length (last_digits f n) ≤ suc k)
        → length (cond (ltb n 10) [] (last_digits f (n / 10)) ++ (48 + n % 10) ∷ []) ≤ suc k
    go k true e h again = rw e (omega arith)
    go zero false e h again = absurd (omega (arith, no_lt n 10 e))
    go (suc k) false e h again = rw (e, length-append) (omega (arith, again k (n / 10) (omega (arith, pow-suc 10 (suc k)))))

pub decimal_most : (k n : ℕ) → n < 10 ^ suc k → length (decimal n) ≤ suc k
unfolding decimal
decimal_most k n h = last_most (suc n) k n h

-- ---- Hexadecimal
pub hex_append : (l m : Bytes) → hex (l ++ m) ≡ hex l ++ hex m
unfolding hex
hex_append [] m = refl
hex_append (b ∷ l) m = ap (λ x. hex_digit (b / 16) ∷ hex_digit (b % 16) ∷ x) (hex_append l m)

pub length_hex : (l : Bytes) → length (hex l) ≡ 2 * length l
unfolding hex
length_hex [] = refl
length_hex (b ∷ l) = omega (arith, length_hex l)

-- byte by byte: one more, and there is room for it
module _ (i : ℕ) (key : Bytes) (h : i < length key) where
  pub hex_more : hex (take (i + 1) key) ≡ hex (take i key) ++ hex (get_or key i 0 ∷ [])
  hex_more = let t : take (i + 1) key ≡ take i key ++ get_or key i 0 ∷ [] = rw (add-one, take-suc key i 0) in rw t (hex_append (take i key) (get_or key i 0 ∷ []))

  pub hex_room : length (hex (take i key)) + 2 ≤ length (hex key)
  hex_room = let l : i ≤ length key = omega arith in omega (arith, length_hex (take i key), length_hex key, length-take-le i key l)
