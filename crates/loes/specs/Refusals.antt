-- Refusals: their numbers, and tests in order of which the first to hold gives its number.
use Rattle.std.specs.Prelude.{ℕ, Bool, cond, List, [], ◌∷◌}
use mathlib.Core.Option.{Option, none, some}

-- ---- Whoever sent the encoding
-- fewer than 3 bytes remain for a field's tag and length, or fewer than its length says
abbrev pub truncated : ℕ
truncated = 1

-- a tag outside 1 to 6, or out of its turn
abbrev pub wrong_tag : ℕ
wrong_tag = 2

-- a length other than the one laid down
abbrev pub wrong_length : ℕ
wrong_length = 3

-- width 0 or above 256 (also the caller of pack)
abbrev pub bad_width : ℕ
bad_width = 4

-- b above 524,280 (also whoever packs, or joins, to such a result)
abbrev pub too_large : ℕ
too_large = 5

-- bytes after the sixth field
abbrev pub trailing_bytes : ℕ
trailing_bytes = 6

-- fields that are well formed, but are the encoding of no set
abbrev pub not_an_encoding : ℕ
not_an_encoding = 7

-- ---- Whoever puts a question
-- a key that isn't t bytes, or has an unused bit set; a prefix likewise
abbrev pub bad_key : ℕ
bad_key = 8

-- an index not below n, an offset above b, or a prefix of more bits than the width
abbrev pub out_of_range : ℕ
out_of_range = 9

-- ---- Whoever sent a batch
-- a byte count that isn't a multiple of t
abbrev pub ragged_batch : ℕ
ragged_batch = 10

-- a key with an unused bit set
abbrev pub unused_bit_set : ℕ
unused_bit_set = 11

-- a key smaller than the one before it
abbrev pub descending : ℕ
descending = 12

-- ---- Whoever joins two encodings
-- two widths
abbrev pub two_widths : ℕ
two_widths = 13

-- ---- Whoever lends memory
-- an output buffer shorter than the accepted result
abbrev pub short_buffer : ℕ
short_buffer = 14

-- a cursor that is neither before, nor after, nor the path of a member, or has an unused offset other than 0
abbrev pub bad_cursor : ℕ
bad_cursor = 15

-- ---- Whoever keeps weights
-- a list that is not as long as its encoding has members
abbrev pub wrong_list : ℕ
wrong_list = 16

-- a sum that leaves 32 signed bits
abbrev pub overflow : ℕ
overflow = 17

-- ---- Tests in order
abbrev pub Tests : Type 0
Tests = List (Option ℕ)

-- number k if it holds
unfoldable pub test : Bool → ℕ → Option ℕ
test holds k = cond holds (some k) none

-- the first that holds
unfoldable pub first_of : Tests → Option ℕ
first_of [] = none
first_of (none ∷ l) = first_of l
first_of (some k ∷ l) = some k
