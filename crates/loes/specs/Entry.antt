-- An entry: a width and a plain set of keys, and what is laid down for it. The model's state is a list of entries (document 01: the table).
use Rattle.std.specs.Prelude.{◌≡◌, ℕ, ◌<◌, ◌≤◌, Bool, true, ◌&&◌, ◌||◌, List, length, eqb, ltb}
use Rattle.loes.specs.Limits.{max_width, max_edges}
use Rattle.loes.specs.Bytes.{started}
use Rattle.loes.specs.Keys.{Key, KeySet, members}
use Rattle.loes.specs.Edges.{edges}

pub record Entry : Type 0 where
  pub width : ℕ
  pub set : KeySet

-- t: the bytes that a key of m bits takes
unfoldable pub key_bytes : ℕ → ℕ
key_bytes m = started 8 m

-- its keys in order
unfoldable pub keys_of : Entry → List Key
keys_of e = members e.width e.set

-- n: how many keys
unfoldable pub count : Entry → ℕ
count e = length (keys_of e)

-- its edge sequence
unfoldable pub edges_of : Entry → List Bool
edges_of e = edges e.width e.set

-- b: how many edge bits
unfoldable pub edge_count : Entry → ℕ
edge_count e = length (edges_of e)

-- an entry with other keys
unfoldable pub with_set : Entry → KeySet → Entry
with_set e s = record { width = e.width; set = s }

-- of a test on keys, only the keys of m bits
unfoldable pub of_width : ℕ → KeySet → KeySet
of_width m s k = eqb (length k) m && s k

-- the same width and the same keys
abbrev pub SameEntry : Entry → Entry → Type 0
SameEntry e f = (e.width ≡ f.width) × ((k : Key) → length k ≡ e.width → e.set k ≡ f.set k)

-- ---- The limits
-- a width of 0 or above 256
unfoldable pub wrong_width : ℕ → Bool
wrong_width m = ltb m 1 || ltb max_width m

-- b above 524,280
unfoldable pub too_many_edges : ℕ → Bool
too_many_edges b = ltb max_edges b

-- an entry that has an encoding: within the limits, and no key of another width
pub record Valid (e : Entry) : Type 0 where
  pub positive : 0 < e.width
  pub narrow : e.width ≤ max_width
  pub sized : (k : Key) → e.set k ≡ true → length k ≡ e.width
  pub few : edge_count e ≤ max_edges
