-- Prefixes and records counted by recursion on the first bit: for the contracts of inner functions. That they are the levels' own is shown in proofs/Tree.antt and proofs/Navigation.antt.
use Rattle.std.specs.Prelude.{ℕ, zero, suc, ◌+◌, ◌*◌, Bool, true, false, ◌||◌, List, [], ◌∷◌, length, ltb}
use Rattle.loes.specs.Bytes.{bit}
use Rattle.loes.specs.Keys.{Key, KeySet}
use Rattle.loes.specs.Edges.{rank}

-- the keys of a set that begin with b, without that bit
unfoldable pub half : Bool → KeySet → KeySet
half b s k = s (b ∷ k)

-- the set has a member of m bits
unfoldable pub inhabited : ℕ → KeySet → Bool
inhabited zero s = s []
inhabited (suc m) s = inhabited m (half false s) || inhabited m (half true s)

-- how many prefixes of d bits are found: the records of level d
unfoldable pub prefix_count : ℕ → ℕ → KeySet → ℕ
prefix_count zero m s = bit (inhabited m s)
prefix_count (suc d) zero s = 0
prefix_count (suc d) (suc m) s = prefix_count d m (half false s) + prefix_count d m (half true s)

-- how many found prefixes of the same length come before p
unfoldable pub prefixes_before : Key → ℕ → KeySet → ℕ
prefixes_before [] m s = 0
prefixes_before (b ∷ p) zero s = 0
prefixes_before (false ∷ p) (suc m) s = prefixes_before p m (half false s)
prefixes_before (true ∷ p) (suc m) s = prefix_count (length p) m (half false s) + prefixes_before p m (half true s)

-- the records of the levels before d
unfoldable pub records_before : ℕ → ℕ → KeySet → ℕ
records_before zero m s = 0
records_before (suc d) m s = records_before d m s + prefix_count d m s

-- the record number of a prefix p
unfoldable pub record_index : Key → ℕ → KeySet → ℕ
record_index p m s = records_before (length p) m s + prefixes_before p m s

-- ---- In any sequence of edges
-- the records of level 0 of a sequence of b bits
unfoldable pub roots : ℕ → ℕ
roots b = bit (ltb 0 b)

-- where the level before level d ends: the records there are so far are the roots and one for each set bit before
unfoldable pub ends : ℕ → List Bool → ℕ → ℕ
ends c e zero = 0
ends c e (suc d) = 2 * (c + rank e (ends c e d))
