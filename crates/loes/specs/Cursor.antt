-- The cursor (document 01: a walk's place), and advance (document 01: the step).
use Rattle.std.specs.Prelude.{ℕ, suc, ◌-◌, Bool, ◌&&◌, cond, not, List, [], ◌∷◌, ◌++◌, length, take, drop, get_or, replicate, eqb, ltb}
use mathlib.Core.Option.{Option, none, some}
use Rattle.loes.specs.Limits.{max_width}
use Rattle.loes.specs.Bytes.{Bytes, tabulate, odd, same_numbers, pack_bits, front}
use Rattle.loes.specs.Keys.{Key, any_of, smaller}
use Rattle.loes.specs.Edges.{edge_offsets}
use Rattle.loes.specs.Entry.{Entry, key_bytes, keys_of, count, edges_of}
use Rattle.loes.specs.Refusals.{bad_cursor, short_buffer, Tests, test, first_of}
use Rattle.loes.specs.Read.{Reading, rejected, opened, read}
use Rattle.loes.specs.Model.{Answer, refused, wrote_key}

pub data State : Type 0 where
  before at after : State

-- before, after or at a member, with an offset for each of the 256 levels that there can be
pub record Cursor : Type 0 where
  pub state : State
  pub offsets : List ℕ

abbrev pub cursor_with : State → List ℕ → Cursor
cursor_with s os = record { state = s; offsets = os }

-- ---- Which cursors are right for an entry
unfoldable pub all_zero : List ℕ → Bool
all_zero l = not (any_of (λ (o : ℕ). not (eqb o 0)) l)

-- the edge offsets of a key, one for each level
unfoldable pub path_of : Entry → Key → List ℕ
path_of e k = edge_offsets (edges_of e) 0 k

-- the path of some member is at the front of a list of offsets
unfoldable pub has_path : Entry → List ℕ → Bool
has_path e os = any_of (λ (k : Key). same_numbers (path_of e k) (take e.width os)) (keys_of e)

-- before and after have no offset; at a member stands its path; every other offset is 0
unfoldable pub offsets_right : Entry → Cursor → Bool
offsets_right e c = elim c.state [
  | before ↦ all_zero c.offsets
  | after ↦ all_zero c.offsets
  | at ↦ has_path e c.offsets && all_zero (drop e.width c.offsets)
]

-- and there are 256 of them
unfoldable pub is_cursor_of : Entry → Cursor → Bool
is_cursor_of e c = eqb (length c.offsets) max_width && offsets_right e c

-- behind the offsets that a cursor uses stand zeros
unfoldable pub padded : List ℕ → List ℕ
padded os = os ++ replicate (max_width - length os) 0

-- before and after
abbrev pub no_offsets : State → Cursor
no_offsets s = cursor_with s (padded [])

-- ---- Where it goes
-- the key of m levels' offsets: level by level, its bit is 1 if the offset is odd
unfoldable pub key_of : (ℕ → ℕ) → ℕ → Key
key_of o m = tabulate (λ (d : ℕ). odd (o d)) m

-- the key of the path in a list of offsets
unfoldable pub key_of_path : List ℕ → ℕ → Key
key_of_path os m = key_of (λ (d : ℕ). get_or os d 0) m

-- the index it goes to; n: it goes to after
unfoldable pub next_index : Entry → Cursor → ℕ
next_index e c = elim c.state [
  | before ↦ 0
  | at ↦ suc (smaller (key_of_path c.offsets e.width) (keys_of e))
  | after ↦ count e
]

unfoldable pub has_next : Entry → Cursor → Bool
has_next e c = ltb (next_index e c) (count e)

unfoldable pub next_key : Entry → Cursor → Key
next_key e c = get_or (keys_of e) (next_index e c) []

-- ---- Advance
-- what is returned, the output buffer and the cursor after it
pub record Advanced : Type 0 where
  pub answer : Answer
  pub buffer : Bytes
  pub cursor : Cursor

-- refused: the buffer and the cursor keep their values
unfoldable pub stays : ℕ → Cursor → Bytes → Advanced
stays k c out = record { answer = refused k; buffer = out; cursor = c }

-- to a member: its key goes to the front of the buffer
unfoldable pub goes_to : Entry → Key → Bytes → Advanced
goes_to e k out =
    record {
      answer = wrote_key (key_bytes e.width);
      buffer = front (pack_bits k) out;
      cursor = cursor_with at (padded (path_of e k));
    }

-- to after: nothing is written, and 0 returned
unfoldable pub goes_to_after : Bytes → Advanced
goes_to_after out = record { answer = wrote_key 0; buffer = out; cursor = no_offsets after }

unfoldable pub stays_or : Option ℕ → Cursor → Bytes → Advanced → Advanced
stays_or none c out done = done
stays_or (some k) c out done = stays k c out

-- 15, then 14 unless it goes to after
unfoldable pub advance_tests : Entry → Cursor → Bytes → Tests
advance_tests e c out =
    test (not (is_cursor_of e c)) bad_cursor
    ∷ test (has_next e c && ltb (length out) (key_bytes e.width)) short_buffer
    ∷ []

unfoldable pub advance : Entry → Cursor → Bytes → Advanced
advance e c out =
    stays_or (first_of (advance_tests e c out)) c out (cond (has_next e c) (goes_to e (next_key e c) out) (goes_to_after out))

-- ---- On bytes: the encoding's refusals first
unfoldable pub advance_reading : Reading → Cursor → Bytes → Advanced
advance_reading (rejected k) c out = stays k c out
advance_reading (opened e) c out = advance e c out

unfoldable pub advance_call : Bytes → Cursor → Bytes → Advanced
advance_call l c out = advance_reading (read l) c out
