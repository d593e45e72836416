-- Bytes: numbers in them, most significant byte first, and bits in them, most significant bit first.
use Rattle.std.specs.Prelude.{ℕ, zero, suc, ◌+◌, ◌-◌, ◌*◌, ◌/◌, ◌%◌, ◌^◌, Bool, true, false, ◌&&◌, List, [], ◌∷◌, ◌++◌, length, get_or, take, drop, eqb}

abbrev pub Bytes : Type 0
Bytes = List ℕ

-- ---- Lists
-- f 0, f 1, … f (n - 1)
unfoldable pub tabulate : {A : Type 0} → (ℕ → A) → ℕ → List A
tabulate f zero = []
tabulate f (suc n) = tabulate f n ++ f n ∷ []

-- two lists of numbers are the same
unfoldable pub same_numbers : List ℕ → List ℕ → Bool
same_numbers [] [] = true
same_numbers [] (y ∷ m) = false
same_numbers (x ∷ l) [] = false
same_numbers (x ∷ l) (y ∷ m) = eqb x y && same_numbers l m

-- ---- Numbers
-- how many parts of size c are started by n: n / c, rounded up
unfoldable pub started : ℕ → ℕ → ℕ
started c n = (n + (c - 1)) / c

-- n in w bytes, big-endian
unfoldable pub big_endian : ℕ → ℕ → Bytes
big_endian zero n = []
big_endian (suc w) n = big_endian w (n / 256) ++ n % 256 ∷ []

-- f 0 … f (n - 1), in w bytes each
unfoldable pub big_endians : ℕ → (ℕ → ℕ) → ℕ → Bytes
big_endians w f zero = []
big_endians w f (suc n) = big_endians w f n ++ big_endian w (f n)

-- the number that starts with acc and goes on with these bytes
unfoldable pub bytes_value : Bytes → ℕ → ℕ
bytes_value [] acc = acc
bytes_value (x ∷ l) acc = bytes_value l (256 * acc + x)

-- the number in the w bytes at a place
unfoldable pub number_at : ℕ → Bytes → ℕ → ℕ
number_at w l at = bytes_value (take w (drop at l)) 0

-- ---- Bits
abbrev pub bit : Bool → ℕ
bit false = 0
bit true = 1

unfoldable pub odd : ℕ → Bool
odd n = eqb (n % 2) 1

-- the number that starts with acc and goes on with these bits
unfoldable pub bits_value : List Bool → ℕ → ℕ
bits_value [] acc = acc
bits_value (b ∷ e) acc = bits_value e (2 * acc + bit b)

-- byte i of a bit sequence: offset 0 is the most significant bit of byte 0, left-over bits are zero
unfoldable pub byte_of : List Bool → ℕ → ℕ
byte_of e i = bits_value (tabulate (λ (j : ℕ). get_or e (8 * i + j) false) 8) 0

unfoldable pub pack_bits : List Bool → Bytes
pack_bits e = tabulate (byte_of e) (started 8 (length e))

-- bit o of bytes, and the first n bits
unfoldable pub bit_at : Bytes → ℕ → Bool
bit_at l o = odd (get_or l (o / 8) 0 / 2 ^ (7 - o % 8))

unfoldable pub bits_in : Bytes → ℕ → List Bool
bits_in l n = tabulate (bit_at l) n

-- ---- Writing: x at the front of a buffer; what is behind it keeps its value
unfoldable pub front : {A : Type 0} → List A → List A → List A
front x buf = x ++ drop (length x) buf
