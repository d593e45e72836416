-- The edge sequence of a set: levels of two-bit records, and how edges are followed.
use Rattle.std.specs.Prelude.{ℕ, zero, suc, ◌+◌, ◌-◌, ◌*◌, Bool, true, false, ◌&&◌, List, [], ◌∷◌, ◌++◌, map, get_or, take}
use Rattle.loes.specs.Bytes.{bit}
use Rattle.loes.specs.Keys.{Key, KeySet, those, any_of, is_prefix, all_keys, members}

-- ---- Levels
-- some member of m bits begins with p
unfoldable pub found : ℕ → KeySet → Key → Bool
found m s p = any_of (is_prefix p) (members m s)

-- whether some member continues a prefix with 0, and with 1
pub record Record : Type 0 where
  pub on_zero : Bool
  pub on_one : Bool

unfoldable pub record_of : ℕ → KeySet → Key → Record
record_of m s p = record { on_zero = found m s (p ++ false ∷ []); on_one = found m s (p ++ true ∷ []) }

-- level d: one record for each distinct prefix of d bits found, in lexicographic order
unfoldable pub level : ℕ → ℕ → KeySet → List Record
level d m s = map (record_of m s) (those (found m s) (all_keys d))

unfoldable pub record_bits : List Record → List Bool
record_bits [] = []
record_bits (r ∷ rs) = r.on_zero ∷ r.on_one ∷ record_bits rs

-- the levels before level d, one after another
unfoldable pub edges_before : ℕ → ℕ → KeySet → List Bool
edges_before zero m s = []
edges_before (suc d) m s = edges_before d m s ++ record_bits (level d m s)

-- all levels, 0 to m - 1
unfoldable pub edges : ℕ → KeySet → List Bool
edges m s = edges_before m m s

-- ---- Rank
unfoldable pub ones : List Bool → ℕ
ones [] = 0
ones (true ∷ e) = suc (ones e)
ones (false ∷ e) = ones e

-- the set bits strictly before offset o (document 02, request 2)
unfoldable pub rank : List Bool → ℕ → ℕ
rank e o = ones (take o e)

-- ---- Following edges
-- the offsets of a key's edges from record r on: the edge at offset o leads to the record whose bits are at 2·rank(o+1) and 2·rank(o+1)+1
unfoldable pub edge_offsets : List Bool → ℕ → Key → List ℕ
edge_offsets e r [] = []
edge_offsets e r (b ∷ k) = (2 * r + bit b) ∷ edge_offsets e (rank e (suc (2 * r + bit b))) k

-- the bits at these offsets are set
unfoldable pub all_set : List Bool → List ℕ → Bool
all_set e [] = true
all_set e (o ∷ os) = get_or e o false && all_set e os

-- a key is present if each of its edges, followed so, is set
unfoldable pub present : List Bool → KeySet
present e k = all_set e (edge_offsets e 0 k)

unfoldable pub last_of : List ℕ → ℕ
last_of [] = 0
last_of (o ∷ []) = o
last_of (o ∷ q ∷ os) = last_of (q ∷ os)

-- a key's index (document 01: lot): the rank behind its last edge, less the set bits in all earlier levels, less 1
unfoldable pub edge_index : ℕ → KeySet → Key → ℕ
edge_index m s k = rank (edges m s) (suc (last_of (edge_offsets (edges m s) 0 k))) - ones (edges_before (m - 1) m s) - 1
