-- The text that is printed, as bytes.
use Rattle.std.specs.Prelude.{◌≡◌, ℕ, zero, suc, ◌+◌, ◌/◌, ◌%◌, ◌≤◌, cond, [], ◌∷◌, ◌++◌, length, take, drop, get_or, ltb}
use Rattle.loes.specs.Bytes.{Bytes, pack_bits}
use Rattle.loes.specs.Entry.{Entry, keys_of, count, edge_count}

-- ---- Numbers
-- the last digits of n in decimal, at most k of them and none in front of the first that n has
unfoldable pub last_digits : ℕ → ℕ → Bytes
last_digits zero n = []
last_digits (suc k) n = cond (ltb n 10) [] (last_digits k (n / 10)) ++ (48 + n % 10) ∷ []

-- all of them: n has no more than n + 1
unfoldable pub decimal : ℕ → Bytes
decimal n = last_digits (suc n) n

-- `0` to `9`, then `A` to `F`
unfoldable pub hex_digit : ℕ → ℕ
hex_digit d = cond (ltb d 10) (48 + d) (55 + d)

-- bytes in upper-case hexadecimal, two digits each
unfoldable pub hex : Bytes → Bytes
hex [] = []
hex (b ∷ l) = hex_digit (b / 16) ∷ hex_digit (b % 16) ∷ hex l

-- ---- Words
abbrev pub line_feed : ℕ
line_feed = 10

abbrev pub space : ℕ
space = 32

-- "width "
abbrev pub width_word : Bytes
width_word = 119 ∷ 105 ∷ 100 ∷ 116 ∷ 104 ∷ 32 ∷ []

-- " tickets "
abbrev pub count_word : Bytes
count_word = 32 ∷ 116 ∷ 105 ∷ 99 ∷ 107 ∷ 101 ∷ 116 ∷ 115 ∷ 32 ∷ []

-- " edges "
abbrev pub edges_word : Bytes
edges_word = 32 ∷ 101 ∷ 100 ∷ 103 ∷ 101 ∷ 115 ∷ 32 ∷ []

-- "refused "
abbrev pub refused_word : Bytes
refused_word = 114 ∷ 101 ∷ 102 ∷ 117 ∷ 115 ∷ 101 ∷ 100 ∷ 32 ∷ []

-- a word and a number
unfoldable pub named : Bytes → ℕ → Bytes
named word n = word ++ decimal n

-- ---- Lines
-- the first: m, n and b
unfoldable pub numbers_line : ℕ → ℕ → ℕ → Bytes
numbers_line m n b = named width_word m ++ named count_word n ++ named edges_word b ++ line_feed ∷ []

-- that of a member: its index, and its key's bytes
unfoldable pub member_line : ℕ → Bytes → Bytes
member_line i key = decimal i ++ space ∷ [] ++ hex key ++ line_feed ∷ []

-- of bytes that are refused, the only one
unfoldable pub refused_line : ℕ → Bytes
refused_line k = named refused_word k ++ line_feed ∷ []

-- no line is longer
abbrev pub max_line : ℕ
max_line = 96

-- ---- All lines of an entry
-- the bytes of its key of index i
unfoldable pub key_bytes_at : Entry → ℕ → Bytes
key_bytes_at e i = pack_bits (get_or (keys_of e) i [])

-- those of n members, from index i on
unfoldable pub lines_from : Entry → ℕ → ℕ → Bytes
lines_from e i zero = []
lines_from e i (suc n) = lines_from e i n ++ member_line (i + n) (key_bytes_at e (i + n))

-- the first line, then one for each member, by index
abbrev pub first_line : Entry → Bytes
first_line e = numbers_line e.width (count e) (edge_count e)

unfoldable pub lines_of : Entry → Bytes
lines_of e = first_line e ++ lines_from e 0 (count e)

-- ---- Text put into a buffer at a place: what is before it and behind it keeps its value
unfoldable pub with_text : ℕ → Bytes → Bytes → Bytes
with_text at s d = take at d ++ s ++ drop (at + length s) d

-- s was put into d at a place where it has room: where it ends, and what d became
pub record Puts (at : ℕ) (s d : Bytes) (end : ℕ) (d' : Bytes) : Type 0 where
  pub room : at + length s ≤ length d
  pub ends : end ≡ at + length s
  pub text : d' ≡ with_text at s d
