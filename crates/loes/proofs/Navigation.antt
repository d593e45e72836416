-- Following edges over the whole sequence: presence, and the index of a key.
use mathlib.Core.Path.{◌≡◌, refl, sym, subst, ap, ◌∙◌}
use Prim.Native.Nat.{ℕ, zero, suc, ◌+◌, ◌-◌, ◌*◌, ◌≤◌, ◌<◌}
use mathlib.Core.Bool.{Bool, true, false, ◌&&◌}
use mathlib.Core.List.{List, [], ◌∷◌, ◌++◌, append_assoc, append-nil}
use native.Mathlib.Omega.{arith}
use native.Mathlib.Decide.{le_ind}
use lib.ListN.{length, get_or, length-append, get_or-append}
use lib.Seq.{take_at, take-append-le, take-append-add, get_or-append-add}
use Rattle.loes.specs.Bytes.{bit}
use Rattle.loes.specs.Keys.{Key, KeySet, members, smaller}
use Rattle.loes.specs.Edges.{level, record_bits, ones, edges, edges_before, rank, edge_offsets, all_set, present, last_of, edge_index}
use Rattle.loes.specs.Prefixes.{inhabited, prefix_count, prefixes_before, records_before, record_index}
use Rattle.loes.proofs.Lists.{ones_append, length_bits}
use Rattle.loes.proofs.Tree.{has_prefix, tree_level, level_tree, ones_tree, length_tree, before_lt, bit_le, edge_bit, edge_rank, length_snoc, prefix_shorter, prefix_inhabited, count_one, prefix_whole, prefix_of, false_if, prefix_start, tree_empty, before_smaller}

pub length_edges_before : (d m : ℕ) (s : KeySet) → d ≤ m → length (edges_before d m s) ≡ 2 * records_before d m s
unfolding edges_before records_before
length_edges_before zero m s h = refl
length_edges_before (suc d) m s h =
    rw (length-append (edges_before d m s) (record_bits (level d m s)), level_tree d m s h, length_bits)
    (omega (arith, length_edges_before d m s (omega arith), length_tree d m s h))

-- the set bits before level d, and the first record: the records to level d
pub ones_edges_before : (d m : ℕ) (s : KeySet) → d ≤ m → ones (edges_before d m s) + prefix_count 0 m s ≡ records_before (suc d) m s
unfolding edges_before records_before
ones_edges_before zero m s h = unfold ones in omega arith
ones_edges_before (suc d) m s h =
    rw (ones_append, level_tree d m s h, ones_tree) (omega (arith, ones_edges_before d m s (omega arith)))

pub edges_from : (d n m : ℕ) (s : KeySet) → d ≤ n → (rest : List Bool) × (edges_before n m s ≡ edges_before d m s ++ rest)
unfolding edges_before
edges_from d n m s h =
    le_ind (λ (j : ℕ). (rest : List Bool) × (edges_before j m s ≡ edges_before d m s ++ rest)) ([], sym (append-nil (edges_before d m s)))
    (λ j l e. (e.0 ++ record_bits (level j m s), ap (λ x. x ++ record_bits (level j m s)) e.1 ∙ append_assoc (edges_before d m s) e.0 (record_bits (level j m s))))
    n h

-- the edges: the levels before d, level d, and the rest
pub edges_at : (d m : ℕ) (s : KeySet) → d < m → (rest : List Bool) × (edges m s ≡ edges_before d m s ++ (record_bits (tree_level d m s) ++ rest))
unfolding edges edges_before
edges_at d m s h =
    let e : (rest : List Bool) × (edges_before m m s ≡ edges_before (suc d) m s ++ rest) = edges_from (suc d) m m s h in
    (e.0, e.1 ∙ append_assoc (edges_before d m s) (record_bits (level d m s)) e.0 ∙ rw (level_tree d m s h))

-- the set bits before a level's first record: the records up to and with the level, but for the first of all
pub rank_level : (d m : ℕ) (s : KeySet) → d ≤ m → inhabited m s ≡ true → rank (edges m s) (2 * records_before d m s) + 1 ≡ records_before (suc d) m s
unfolding rank edges
rank_level d m s h i =
    let e = edges_from d m m s h in
    rw (e.1, take_at (edges_before d m s) e.0 (2 * records_before d m s) (length_edges_before d m s h))
    (omega (arith, ones_edges_before d m s h, count_one m s i))

module _ (p : Key) (b : Bool) (m : ℕ) (s : KeySet) (l : length p < m) where
  inside : has_prefix p m s ≡ true → 2 * prefixes_before p m s + bit b < length (record_bits (tree_level (length p) m s))
  inside h = omega (arith, length_bits (tree_level (length p) m s), length_tree (length p) m s l, before_lt p m s h, bit_le b)

  at_level : 2 * record_index p m s + bit b ≡ length (edges_before (length p) m s) + (2 * prefixes_before p m s + bit b)
  unfolding record_index
  at_level = omega (arith, length_edges_before (length p) m s (omega arith))

  pub nav_bit : has_prefix p m s ≡ true → get_or (edges m s) (2 * record_index p m s + bit b) false ≡ has_prefix (p ++ b ∷ []) m s
  nav_bit h =
      let i : 2 * prefixes_before p m s + bit b < length (record_bits (tree_level (length p) m s)) = inside h in
      rw ((edges_at (length p) m s l).1, at_level, get_or-append-add, get_or-append) (edge_bit p b m s l h)

  -- (b)
  pub nav_rank : has_prefix (p ++ b ∷ []) m s ≡ true → rank (edges m s) (suc (2 * record_index p m s + bit b)) ≡ record_index (p ++ b ∷ []) m s
  unfolding rank
  nav_rank h =
      let i : suc (2 * prefixes_before p m s + bit b) ≤ length (record_bits (tree_level (length p) m s)) = inside (prefix_shorter p b m s h) in
      let at : suc (2 * record_index p m s + bit b) ≡ length (edges_before (length p) m s) + suc (2 * prefixes_before p m s + bit b) = omega (arith, at_level) in
      rw ((edges_at (length p) m s l).1, at, take-append-add, take-append-le, ones_append, edge_rank p b m s l h)
      (unfold record_index in
      rw (length_snoc p b)
      (omega (arith, ones_edges_before (length p) m s (omega arith), count_one m s (prefix_inhabited (p ++ b ∷ []) m s h))))

-- from the record of a found prefix p, the edges of k are all set exactly if the set has p and k
pub follow : (p k : Key) (m : ℕ) (s : KeySet) → length (p ++ k) ≡ m → has_prefix p m s ≡ true
    → all_set (edges m s) (edge_offsets (edges m s) (record_index p m s) k) ≡ s (p ++ k)
unfolding all_set edge_offsets
follow p [] m s l f = rw append-nil (sym (sym (prefix_whole p m s (rw append-nil at l)) ∙ f))
follow p (b ∷ k) m s l f =
    let short : length p < m = omega (arith, simp length-append at l) in
    let l2 : length (p ++ b ∷ [] ++ k) ≡ m = rw append_assoc l in
    rw (nav_bit p b m s short f, ← append_assoc p (b ∷ []) k)
    (go short (has_prefix (p ++ b ∷ []) m s) refl l2 (λ f2. follow (p ++ b ∷ []) k m s l2 f2))
  where
    go : length p < m → (c : Bool) → has_prefix (p ++ b ∷ []) m s ≡ c → length (p ++ b ∷ [] ++ k) ≡ m
        → (has_prefix (p ++ b ∷ []) m s ≡ true → all_set (edges m s) (edge_offsets (edges m s) (record_index (p ++ b ∷ []) m s) k) ≡ s (p ++ b ∷ [] ++ k))
        → (c && all_set (edges m s) (edge_offsets (edges m s) (rank (edges m s) (suc (2 * record_index p m s + bit b))) k)) ≡ s (p ++ b ∷ [] ++ k)
    go short true e l2 ih = rw (nav_rank p b m s short e) (ih e)
    go short false e l2 ih = sym (false_if (prefix_of (p ++ b ∷ []) k m s l2) e)

edges_before_empty : (d m : ℕ) (s : KeySet) → inhabited m s ≡ false → d ≤ m → edges_before d m s ≡ []
unfolding edges_before record_bits
edges_before_empty zero m s h l = refl
edges_before_empty (suc d) m s h l = rw (edges_before_empty d m s h (omega arith), level_tree d m s l, tree_empty d m s h)

pub edges_empty : (m : ℕ) (s : KeySet) → inhabited m s ≡ false → edges m s ≡ []
unfolding edges
edges_empty m s h = edges_before_empty m m s h (omega arith)

pub record_nil : (m : ℕ) (s : KeySet) → record_index [] m s ≡ 0
unfolding record_index records_before prefixes_before
record_nil m s = refl

pub no_edges : (k : Key) → 0 < length k → all_set [] (edge_offsets [] 0 k) ≡ false
unfolding all_set edge_offsets
no_edges [] l = absurd (omega arith)
no_edges (b ∷ k) l = refl

-- a key is present exactly if the set has it
pub present_is : (k : Key) (m : ℕ) (s : KeySet) → length k ≡ m → 0 < m → present (edges m s) k ≡ s k
unfolding present has_prefix
present_is k m s l pos = go (inhabited m s) refl
  where
    go : (c : Bool) → inhabited m s ≡ c → all_set (edges m s) (edge_offsets (edges m s) 0 k) ≡ s k
    go true h = rw (record_nil m s) at (follow [] k m s l h)
    go false h = rw (edges_empty m s h, no_edges k (omega arith)) (sym (false_if (prefix_of [] k m s l) h))

-- the rank behind the last edge
pub last_rank : (p : Key) (b : Bool) (k : Key) (m : ℕ) (s : KeySet) → length (p ++ b ∷ k) ≡ m → has_prefix (p ++ b ∷ k) m s ≡ true
    → rank (edges m s) (suc (last_of (edge_offsets (edges m s) (record_index p m s) (b ∷ k)))) ≡ record_index (p ++ b ∷ k) m s
unfolding edge_offsets last_of
last_rank p b [] m s l f = nav_rank p b m s (omega (arith, simp length-append at l)) f
last_rank p b (c ∷ k) m s l f =
    let short : length p < m = omega (arith, simp length-append at l) in
    subst
    (λ (r : ℕ). rank (edges m s) (suc (last_of (edge_offsets (edges m s) r (c ∷ k)))) ≡ record_index (p ++ b ∷ (c ∷ k)) m s)
    (sym (nav_rank p b m s short (prefix_start (p ++ b ∷ []) (c ∷ k) m s (rw append_assoc f))))
    (rw append_assoc at (last_rank (p ++ b ∷ []) c k m s (rw append_assoc l) (rw append_assoc f)))

-- the index that the edges give: how many members are smaller
pub index_is_lem : (k : Key) (m : ℕ) (s : KeySet) → length k ≡ suc m → s k ≡ true → edge_index (suc m) s k ≡ smaller k (members (suc m) s)
unfolding edge_index record_index
index_is_lem [] m s l e = absurd (omega arith)
index_is_lem (b ∷ k) m s l e =
    let f : has_prefix (b ∷ k) (suc m) s ≡ true = prefix_whole (b ∷ k) (suc m) s l ∙ e in
    let r : rank (edges (suc m) s) (suc (last_of (edge_offsets (edges (suc m) s) 0 (b ∷ k)))) ≡ record_index (b ∷ k) (suc m) s =
    rw (record_nil (suc m) s) at (last_rank [] b k (suc m) s l f) in
    let n : suc m - 1 ≡ m = omega arith in
    rw (r, n, before_smaller (b ∷ k) (suc m) s l)
    (rw l (omega (arith, ones_edges_before m (suc m) s (omega arith), count_one (suc m) s (prefix_inhabited (b ∷ k) (suc m) s f))))
