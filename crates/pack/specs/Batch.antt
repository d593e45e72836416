-- A batch: its keys, and what is tested of them.
use Rattle.std.specs.Prelude.{◌≡◌, ℕ, zero, suc, ◌+◌, ◌-◌, ◌*◌, ◌/◌, ◌^◌, ◌<◌, ◌≤◌, Bool, false, length, get_or, take, drop, replicate, Result, Ok, Err}
use mathlib.Core.List.{List, [], ◌++◌, flatten}
use mathlib.Core.Option.{none, some}
use Rattle.loes.specs.Limits.{max_edges}
use Rattle.loes.specs.Bytes.{Bytes, odd, bit, bit_at, tabulate, started}
use Rattle.loes.specs.Keys.{Key, KeySet}
use Rattle.loes.specs.Edges.{edges}
use Rattle.loes.specs.Prefixes.{prefix_count, records_before}
use Rattle.loes.specs.Entry.{key_bytes}
use Rattle.loes.specs.Refusals.{Tests, first_of}
use Rattle.loes.specs.Model.{key_in, pair_tests}
use Rattle.pack.specs.Rising.{first_new, set_below, Rising}
use Rattle.pack.specs.Marking.{max_records}
use Rattle.loes.specs.Numbers.{number_of}
use Rattle.loes.specs.declared.refusal.Refusal.{Refusal}
use Rattle.pack.specs.declared.batch.Batch.{Batch}

-- the bytes agree below n, which is t or a place where they differ
pub record SameBytes (x y : Bytes) (t n : ℕ) : Type 0 where
  pub most : n ≤ t
  pub each : (i : ℕ) → i < n → get_or x i 0 ≡ get_or y i 0
  pub differ : n < t → get_or x n 0 ≡ get_or y n 0 → ⊥

-- n is the first bit in which two bytes differ
pub record FirstDifference (p q n : ℕ) : Type 0 where
  pub within : n < 8
  pub each : (i : ℕ) → i < n → odd (p / 2 ^ (7 - i)) ≡ odd (q / 2 ^ (7 - i))
  pub differ : odd (p / 2 ^ (7 - n)) ≡ odd (q / 2 ^ (7 - n)) → ⊥

-- key i of keys of m bits, laid end to end
abbrev pub key : ℕ → Bytes → ℕ → Key
key m l i = key_in m (drop (key_bytes m * i) l)

-- the bytes of key i, and the set of all keys
unfoldable pub key_at : Batch → ℕ → Bytes
key_at batch i = take batch.size (drop (batch.size * i) batch.bytes.now)

abbrev pub members : Batch → KeySet
members batch = set_below (key batch.width batch.bytes.now) batch.count

-- the key before key i: nothing before the first
unfoldable pub previous : (ℕ → Key) → ℕ → Key
previous f zero = []
previous f (suc i) = f i

-- 11 and 12 of key i, and of the first n keys
unfoldable pub key_tests : ℕ → Bytes → ℕ → Tests
key_tests m l i = pair_tests m (previous (key m l) i) (drop (key_bytes m * i) l)

unfoldable pub tests_below : ℕ → Bytes → ℕ → Tests
tests_below m l n = flatten (tabulate (key_tests m l) n)

-- key i is refused, or its first new length is told
abbrev pub KeyChecked : ℕ → Bytes → ℕ → Result ℕ Refusal → Type 0
KeyChecked m l i (Err k) = first_of (key_tests m l i) ≡ some (number_of k)
KeyChecked m l i (Ok e) = (first_of (key_tests m l i) ≡ none) × (e ≡ first_new (key m l) i)

-- a key is refused, or all pass and the records of each level are counted
abbrev pub RecordsCounted : Batch → List ℕ → Result Unit Refusal → Type 0
RecordsCounted batch counts (Err k) = first_of (tests_below batch.width batch.bytes.now batch.count) ≡ some (number_of k)
RecordsCounted batch counts (Ok u) =
    (first_of (tests_below batch.width batch.bytes.now batch.count) ≡ none) × ((e : ℕ) → e < batch.width → get_or counts e 0 ≡ prefix_count e batch.width (members batch))

-- rising keys to be marked: each cursor is at its level's first record
pub record Markable (batch : Batch) (cursors : List ℕ) : Type 0 where
  pub rising : Rising batch.width batch.count (key batch.width batch.bytes.now)
  pub long : batch.width ≤ length cursors
  pub starts : (e : ℕ) → e < batch.width → get_or cursors e 0 ≡ records_before e batch.width (members batch)
  pub few : records_before batch.width batch.width (members batch) ≤ max_records

-- and the edge bytes are clear
pub record Unmarked (batch : Batch) (cursors : List ℕ) (edges : Bytes) : Type 0 where
  pub keys : Markable batch cursors
  pub clear : edges ≡ replicate (started 8 (2 * records_before batch.width batch.width (members batch))) 0

-- top is m, or level top has n records
pub record Apart (m n top : ℕ) (s : KeySet) : Type 0 where
  pub most : top ≤ m
  pub each : top < m → prefix_count top m s ≡ n

-- the edges of the levels from one on; those before it are clear
unfoldable pub edges_from : ℕ → ℕ → KeySet → List Bool
edges_from top m s = replicate (2 * records_before top m s) false ++ drop (2 * records_before top m s) (edges m s)

-- ---- A level on which each key has a record of its own
-- where key i has its edge of level e, whose first record is given
unfoldable pub row_offset : Batch → ℕ → ℕ → ℕ → ℕ
row_offset batch e first i = 2 * (first + i) + bit (bit_at (key_at batch i) e)

-- the first n keys have such an edge, and it lies in the edge bytes
pub record Row (batch : Batch) (n e first : ℕ) (edges : Bytes) : Type 0 where
  pub whole : n ≤ batch.count
  pub inside : e < batch.width
  pub fit : 2 * (first + n) ≤ 8 * length edges
  pub small : length edges ≤ max_edges / 8
