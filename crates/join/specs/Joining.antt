-- Union and difference as one call, and what is known on its way.
use Rattle.std.specs.Prelude.{◌≡◌, ℕ, Bool, true, ◌||◌, eqb, min, ◌+◌, ◌*◌, ◌/◌, ◌<◌, ◌≤◌, [], ◌∷◌, length, take, Result, Ok, Err}
use mathlib.Core.Option.{Option, some}
use Rattle.loes.specs.Limits.{max_width, max_edges}
use Rattle.loes.specs.Bytes.{Bytes, started, pack_bits, bits_in}
use Rattle.loes.specs.Entry.{Entry, edges_of}
use Rattle.loes.specs.Refusals.{first_of}
use Rattle.loes.specs.Numbers.{number_of}
use Rattle.loes.specs.Read.{Reading, rejected, opened, read}
use Rattle.loes.specs.Held.{entry_held}
use Rattle.loes.specs.Model.{Outcome, join_tests, writes, union_entry, difference_entry}
use Rattle.loes.specs.Calls.{reading}
use Rattle.loes.specs.declared.refusal.Refusal.{Refusal}
use Rattle.records.specs.Numbers.{overwrite}
use Rattle.join.specs.declared.Join.{Join}
use Rattle.join.specs.declared.Join.TheVariants as join
use Rattle.join.specs.declared.pair.Pair.{Pair}

-- the entry that is asked for
abbrev pub join_of : Join → Entry → Entry → Entry
join_of join.Union = union_entry
join_of join.Difference = difference_entry

-- first encoding, second encoding, 13, then 5 and 14
unfoldable pub join_call : (Entry → Entry → Entry) → Bytes → Bytes → Bytes → Outcome
join_call op a b out = reading a (out ∷ []) λ e. reading b (out ∷ []) λ f. (writes (join_tests e f) (op e f ∷ []) (out ∷ [])).outcome

-- the first refusal of two encodings: the first's, the second's, 13
unfoldable pub pair_refusal : Reading → Reading → Option ℕ
pair_refusal (rejected k) r = some k
pair_refusal (opened e) (rejected k) = some k
pair_refusal (opened e) (opened f) = first_of (join_tests e f)

-- they are refused, whatever is asked for, or opened
abbrev pub Both : Bytes → Bytes → Result Pair Refusal → Type 0
Both a b (Err k) = pair_refusal (read a) (read b) ≡ some (number_of k)
Both a b (Ok p) = (p.first.bytes.now ≡ a) × (p.second.bytes.now ≡ b)

-- k edge bits hold an entry, and what is left of their last byte is clear; they may be too many
pub record Joined (m k : ℕ) (l : Bytes) : Type 0 where
  pub positive : 0 < m
  pub narrow : m ≤ max_width
  pub room : k ≤ 8 * length l
  pub same : edges_of (entry_held m k l) ≡ bits_in l k
  pub whole : take (started 8 k) l ≡ pack_bits (bits_in l k)

-- the sizes that a room may be for: tiny encodings, small ones, those of middle size, and any, by the most edges
abbrev pub tiny : ℕ
tiny = 512

abbrev pub small : ℕ
small = 2048

abbrev pub middle : ℕ
middle = 16384

abbrev pub large : ℕ
large = max_edges / 8

unfoldable pub is_size : ℕ → Bool
is_size n = eqb n tiny || eqb n small || eqb n middle || eqb n large

-- the bytes of the records that a run put at the end may write, and one that the root's flag begins
abbrev pub spare : ℕ
spare = overwrite / 4 + 1

-- of n bytes: the flags of 8 n edges of each of two, four flags to a byte
abbrev pub queue_for : ℕ → ℕ
queue_for n = 4 * n + spare

-- and the edges of one
abbrev pub edges_for : ℕ → ℕ
edges_for n = n + spare

-- the most edges of an encoding of n bytes
abbrev pub edges_within : ℕ → ℕ
edges_within n = min (8 * n) max_edges

-- rooms of size n serve whatever two encodings of x and y bytes have
pub record Serves (n x y : ℕ) : Type 0 where
  pub sized : is_size n ≡ true
  pub few : n ≤ large
  pub first : edges_within x ≤ 8 * n
  pub second : edges_within y ≤ 8 * n

-- a queue and room for the edges of a difference, of so many bytes, by the one rule of their size n
pub record RoomFor (n x y queue edges : ℕ) : Type 0 where
  pub serves : Serves n x y
  pub flags : queue ≡ queue_for n
  pub rest : edges ≡ edges_for n
