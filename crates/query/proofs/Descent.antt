-- One descent: from the record of a prefix to that of the prefix one longer, found or not
use mathlib.Core.Path.{◌≡◌, refl, sym, ap, ◌∙◌}
use Prim.Native.Nat.{ℕ, zero, suc, ◌+◌, ◌*◌, ◌/◌, ◌≤◌, ◌<◌}
use mathlib.Core.Bool.{Bool, true, false, ◌&&◌}
use mathlib.Core.List.{[], ◌∷◌, ◌++◌}
use native.Mathlib.Omega.{arith}
use lib.ListN.{length, get_or, length-append}
use lib.Seq.{take-append-le, take-append-add}
use Rattle.loes.specs.Bytes.{bit}
use Rattle.loes.specs.Keys.{Key, KeySet, members, smaller}
use Rattle.loes.specs.Edges.{record_bits, rank, edges, edges_before}
use Rattle.loes.specs.Prefixes.{inhabited, prefixes_before, records_before, record_index}
use Rattle.loes.proofs.Lists.{ones_append, length_bits}
use Rattle.loes.proofs.Tree.{has_prefix, tree_level, length_tree, before_lt, before_le, reach_le, bit_le, step_before, length_snoc, prefix_shorter, count_one, false_if, before_smaller, count_none}
use Rattle.loes.proofs.Navigation.{length_edges_before, ones_edges_before, edges_at, nav_bit, edges_empty}
use Rattle.query.specs.Descent.{edge_from}

module _ (p : Key) (b : Bool) (m : ℕ) (s : KeySet) (l : length p < m) where
  at_level : edge_from (record_index p m s) (has_prefix p m s) b ≡ length (edges_before (length p) m s) + (2 * prefixes_before p m s + bit (has_prefix p m s && b))
  unfolding record_index edge_from
  at_level = omega (arith, length_edges_before (length p) m s (omega arith))

  inside : 2 * prefixes_before p m s + bit (has_prefix p m s && b) ≤ length (record_bits (tree_level (length p) m s))
  inside = omega (arith, length_bits (tree_level (length p) m s), length_tree (length p) m s l, reach_le p b m s (omega arith))

  -- the edge is one of the sequence, or its end
  pub edge_le : edge_from (record_index p m s) (has_prefix p m s) b ≤ length (edges m s)
  edge_le =
      let e = edges_at (length p) m s l in
      rw (e.1, length-append (edges_before (length p) m s) (record_bits (tree_level (length p) m s) ++ e.0), length-append (record_bits (tree_level (length p) m s)) e.0)
      (omega (arith, at_level, inside))

  pub edge_lt : has_prefix p m s ≡ true → edge_from (record_index p m s) (has_prefix p m s) b < length (edges m s)
  edge_lt h =
      let e = edges_at (length p) m s l in
      rw (e.1, length-append (edges_before (length p) m s) (record_bits (tree_level (length p) m s) ++ e.0), length-append (record_bits (tree_level (length p) m s)) e.0)
      (omega (arith, at_level, length_bits (tree_level (length p) m s), length_tree (length p) m s l, before_lt p m s h, bit_le (has_prefix p m s && b)))

  -- the next record
  pub record_step : inhabited m s ≡ true → suc (rank (edges m s) (edge_from (record_index p m s) (has_prefix p m s) b)) ≡ record_index (p ++ b ∷ []) m s
  unfolding rank
  record_step h =
      let i : 2 * prefixes_before p m s + bit (has_prefix p m s && b) ≤ length (record_bits (tree_level (length p) m s)) = inside in
      rw (at_level, (edges_at (length p) m s l).1, take-append-add, take-append-le, ones_append, step_before p b m s l)
      (unfold record_index in
      rw (length_snoc p b) (omega (arith, ones_edges_before (length p) m s (omega arith), count_one m s h)))

  -- and whether the prefix one longer is found
  pub found_step : (has_prefix p m s && get_or (edges m s) (edge_from (record_index p m s) (has_prefix p m s) b) false) ≡ has_prefix (p ++ b ∷ []) m s
  unfolding edge_from
  found_step = go (has_prefix p m s) refl
    where
      go : (c : Bool) → has_prefix p m s ≡ c → (c && get_or (edges m s) (2 * record_index p m s + bit (c && b)) false) ≡ has_prefix (p ++ b ∷ []) m s
      go true h = nav_bit p b m s l h
      go false h = sym (false_if (prefix_shorter p b m s) h)

-- at the end: the records of all levels, and the smaller members
pub record_end : (k : Key) (m : ℕ) (s : KeySet) → length k ≡ m → record_index k m s ≡ length (edges m s) / 2 + smaller k (members m s)
unfolding record_index edges
record_end k m s l = rw (before_smaller k m s l, l, length_edges_before m m s (omega arith)) (omega arith)

-- a sequence that is not empty is of a set that is not
pub inhabited_some : (m : ℕ) (s : KeySet) → 0 < length (edges m s) → inhabited m s ≡ true
inhabited_some m s h = go (inhabited m s) refl
  where
    go : (c : Bool) → inhabited m s ≡ c → c ≡ true
    go true e = refl
    go false e = absurd (omega (arith, rw (edges_empty m s e) at h))

pub inhabited_none : (m : ℕ) (s : KeySet) → 0 < m → length (edges m s) ≡ 0 → inhabited m s ≡ false
inhabited_none m s l h = go (inhabited m s) refl
  where
    go : (c : Bool) → inhabited m s ≡ c → c ≡ false
    go false e = refl
    go true e =
        let a = edges_at 0 m s l in
        let z : length (edges_before 0 m s ++ (record_bits (tree_level 0 m s) ++ a.0)) ≡ 0 = sym (ap length a.1) ∙ h in
        absurd (omega (arith, z, length-append (edges_before 0 m s) (record_bits (tree_level 0 m s) ++ a.0), length-append (record_bits (tree_level 0 m s)) a.0, length_bits (tree_level 0 m s), length_tree 0 m s l, count_one m s e))

-- an empty set has no records
none_before : (d m : ℕ) (s : KeySet) → inhabited m s ≡ false → records_before d m s ≡ 0
unfolding records_before
none_before zero m s h = refl
none_before (suc d) m s h = omega (arith, none_before d m s h, count_none d m s h)

pub record_none : (p : Key) (m : ℕ) (s : KeySet) → length p ≤ m → inhabited m s ≡ false → record_index p m s ≡ 0
unfolding record_index
record_none p m s l h = omega (arith, none_before (length p) m s h, before_le p m s l, count_none (length p) m s h)
