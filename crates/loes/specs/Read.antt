-- Reading bytes: the refusal of a list that is no encoding, or the entry whose encoding it is.
use Rattle.std.specs.Prelude.{ℕ, ◌+◌, ◌-◌, ◌*◌, Bool, not, length, drop, get_or, eqb, ltb}
use mathlib.Core.List.{List, [], ◌∷◌, flatten}
use mathlib.Core.Option.{Option, none, some}
use Rattle.loes.specs.Limits.{block_bits, sub_block_bits, tag_bytes, length_bytes, head_bytes, width_bytes, count_bytes, level_entry, block_entry, sub_block_entry}
use Rattle.loes.specs.Bytes.{Bytes, same_numbers, started, number_at, bits_in}
use Rattle.loes.specs.Edges.{present}
use Rattle.loes.specs.Entry.{Entry, of_width, wrong_width, too_many_edges}
use Rattle.loes.specs.Encode.{encode}
use Rattle.loes.specs.Refusals.{truncated, wrong_tag, wrong_length, bad_width, too_large, trailing_bytes, not_an_encoding, Tests, test, first_of}

-- ---- Where the fields lie
-- the laid-down lengths of the bodies of fields 3 to 6, for width m and b edge bits; those of fields 1 and 2 are `width_bytes` and `count_bytes`
abbrev pub level_bytes : ℕ → ℕ
level_bytes m = level_entry * m

abbrev pub edge_bytes : ℕ → ℕ
edge_bytes b = started 8 b

abbrev pub block_bytes : ℕ → ℕ
block_bytes b = block_entry * started block_bits b

abbrev pub sub_block_bytes : ℕ → ℕ
sub_block_bytes b = sub_block_entry * started sub_block_bits b

-- the body of a field begins behind its head
abbrev pub body_at : ℕ → ℕ
body_at at = at + head_bytes

-- each field begins behind the body of the one before it; field 1 at 0
abbrev pub start2 : ℕ
start2 = body_at 0 + width_bytes

abbrev pub start3 : ℕ
start3 = body_at start2 + count_bytes

unfoldable pub start4 : ℕ → ℕ
start4 m = body_at start3 + level_bytes m

unfoldable pub start5 : ℕ → ℕ → ℕ
start5 m b = body_at (start4 m) + edge_bytes b

unfoldable pub start6 : ℕ → ℕ → ℕ
start6 m b = body_at (start5 m b) + block_bytes b

-- where the sixth ends
unfoldable pub end_of : ℕ → ℕ → ℕ
end_of m b = body_at (start6 m b) + sub_block_bytes b

-- ---- What stands there
-- m, in the body of field 1
unfoldable pub width_in : Bytes → ℕ
width_in l = number_at width_bytes l (body_at 0)

-- where level d ends, as field 3 says
abbrev pub level_at : Bytes → ℕ → ℕ
level_at l d = number_at level_entry l (body_at start3 + level_entry * d)

-- entry j of field 5 and of field 6, if its body begins at a place
abbrev pub block_at : Bytes → ℕ → ℕ → ℕ
block_at l at j = number_at block_entry l (at + block_entry * j)

abbrev pub sub_block_at : Bytes → ℕ → ℕ → ℕ
sub_block_at l at j = number_at sub_block_entry l (at + sub_block_entry * j)

-- b, where the last level ends
unfoldable pub edge_count_in : Bytes → ℕ
edge_count_in l = level_at l (width_in l - 1)

-- the b edges in the body of field 4
unfoldable pub edges_in : Bytes → List Bool
edges_in l = bits_in (drop (body_at (start4 (width_in l))) l) (edge_count_in l)

-- the entry that following edges gives
unfoldable pub entry_along : ℕ → List Bool → Entry
entry_along m e = record { width = m; set = of_width m (present e) }

unfoldable pub entry_in : Bytes → Entry
entry_in l = entry_along (width_in l) (edges_in l)

-- ---- The tests, in order
-- of the field of this tag and this laid-down length that begins at a place: 1 for its head, 2, 3, 1 for its body
unfoldable pub field_tests : ℕ → ℕ → Bytes → ℕ → Tests
field_tests tag n l at =
    test (ltb (length l - at) head_bytes) truncated
    ∷ test (not (eqb (get_or l at 0) tag)) wrong_tag
    ∷ test (not (eqb (number_at length_bytes l (at + tag_bytes)) n)) wrong_length
    ∷ test (ltb (length l - at - head_bytes) n) truncated
    ∷ []

-- fields 1 to 3: 4 follows field 1 and 5 follows field 3
unfoldable pub head_tests : Bytes → Tests
head_tests l =
    flatten
    (field_tests 1 width_bytes l 0
    ∷ (test (wrong_width (width_in l)) bad_width ∷ [])
    ∷ field_tests 2 count_bytes l start2
    ∷ field_tests 3 (level_bytes (width_in l)) l start3
    ∷ (test (too_many_edges (edge_count_in l)) too_large ∷ [])
    ∷ [])

-- fields 4 to 6, for width m and b edge bits; then 6
unfoldable pub tail_tests : ℕ → ℕ → Bytes → Tests
tail_tests m b l =
    flatten
    (field_tests 4 (edge_bytes b) l (start4 m)
    ∷ field_tests 5 (block_bytes b) l (start5 m b)
    ∷ field_tests 6 (sub_block_bytes b) l (start6 m b)
    ∷ (test (ltb (end_of m b) (length l)) trailing_bytes ∷ [])
    ∷ [])

-- all: the last is 7, if the bytes are not the encoding of what their edges give
unfoldable pub read_tests : Bytes → Tests
read_tests l =
    flatten
    (head_tests l
    ∷ tail_tests (width_in l) (edge_count_in l) l
    ∷ (test (not (same_numbers l (encode (entry_in l)))) not_an_encoding ∷ [])
    ∷ [])

-- ---- Reading
pub data Reading : Type 0 where
  -- refused, with this number
  rejected : ℕ → Reading
  -- the encoding of this entry
  opened : Entry → Reading

unfoldable pub reading_of : Option ℕ → Entry → Reading
reading_of none e = opened e
reading_of (some k) e = rejected k

unfoldable pub read : Bytes → Reading
read l = reading_of (first_of (read_tests l)) (entry_in l)
