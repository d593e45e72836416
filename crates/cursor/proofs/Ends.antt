-- The last member's path turns nowhere; the first member's takes the first edge everywhere.
use mathlib.Core.Path.{◌≡◌, refl, sym, ap, ◌∙◌}
use Prim.Native.Nat.{ℕ, zero, suc, ◌+◌, ◌*◌, ◌/◌, ◌≤◌, ◌<◌}
use mathlib.Core.Bool.{Bool, true, false, ◌&&◌, ◌||◌, not, and-false}
use mathlib.Core.List.{List, [], ◌∷◌, ◌++◌}
use native.Mathlib.Omega.{arith}
use lib.ListN.{length, take, get_or}
use lib.Seq.{take_all}
use Rattle.loes.specs.Bytes.{bit, odd, tabulate}
use Rattle.loes.specs.Keys.{Key, KeySet, members}
use Rattle.loes.specs.Edges.{record_bits, ones, edges, rank}
use Rattle.loes.specs.Prefixes.{inhabited, prefix_count, prefixes_before, record_index}
use Rattle.loes.specs.Cursor.{key_of}
use Rattle.loes.proofs.Lists.{rank_empty, length_bits}
use Rattle.loes.proofs.Bits.{odd_bit}
use Rattle.loes.proofs.Tree.{has_prefix, tree_level, ones_tree, length_tree, edge_bit, step_before, edge_rank, count_one, length_members}
use Rattle.loes.proofs.Navigation.{nav_bit}
use Rattle.query.proofs.Paths.{record_at, Leading, key_length, key_suc, split}
use Rattle.cursor.specs.Moves.{turns, first_edge}
use Rattle.cursor.proofs.Moves.{path_prefix, record_some, first_set, first_half}

-- ---- the last found prefix, one longer
pub last_step : (p : Key) (b : Bool) (m : ℕ) (s : KeySet) → length p < m → has_prefix p m s ≡ true → has_prefix (p ++ b ∷ []) m s ≡ true → (not b && has_prefix (p ++ true ∷ []) m s) ≡ false
    → suc (prefixes_before p m s) ≡ prefix_count (length p) m s → suc (prefixes_before (p ++ b ∷ []) m s) ≡ prefix_count (suc (length p)) m s
unfolding rank
last_step p b m s l fp fb nt h = go b fb nt
  where
    size : length (record_bits (tree_level (length p) m s)) ≡ suc (suc (2 * prefixes_before p m s))
    size = omega (arith, length_bits (tree_level (length p) m s), length_tree (length p) m s l, h)

    go : (b : Bool) → has_prefix (p ++ b ∷ []) m s ≡ true → (not b && has_prefix (p ++ true ∷ []) m s) ≡ false → suc (prefixes_before (p ++ b ∷ []) m s) ≡ prefix_count (suc (length p)) m s
    go true fb nt =
        let z : suc (2 * prefixes_before p m s + 1) ≡ length (record_bits (tree_level (length p) m s)) = omega (arith, size) in
        sym (edge_rank p true m s l fb) ∙ ap ones (take_all (suc (2 * prefixes_before p m s + 1)) (record_bits (tree_level (length p) m s)) (omega (arith, z))) ∙ ones_tree (length p) m s
    go false fb nt =
        let y : 2 * prefixes_before p m s + 0 ≡ 2 * prefixes_before p m s = omega arith in
        let w : 2 * prefixes_before p m s + 1 ≡ suc (2 * prefixes_before p m s) = omega arith in
        let c : get_or (record_bits (tree_level (length p) m s)) (suc (2 * prefixes_before p m s)) false ≡ false = rw w at (edge_bit p true m s l fp) ∙ nt in
        let r : ones (take (suc (2 * prefixes_before p m s)) (record_bits (tree_level (length p) m s))) ≡ suc (prefixes_before (p ++ false ∷ []) m s) = rw y at (edge_rank p false m s l fb) in
        sym r ∙ sym (rank_empty (record_bits (tree_level (length p) m s)) (suc (2 * prefixes_before p m s)) c)
        ∙ ap ones (take_all (suc (suc (2 * prefixes_before p m s))) (record_bits (tree_level (length p) m s)) (omega (arith, size))) ∙ ones_tree (length p) m s

-- ---- the first found prefix, one longer
none_first : (l : List Bool) → get_or l 0 false ≡ false → ones (take 1 l) ≡ 0
unfolding ones rank
none_first l h = rank_empty l 0 h

pub first_step : (p : Key) (b : Bool) (m : ℕ) (s : KeySet) → length p < m → has_prefix p m s ≡ true → (b && has_prefix (p ++ false ∷ []) m s) ≡ false
    → prefixes_before p m s ≡ 0 → prefixes_before (p ++ b ∷ []) m s ≡ 0
first_step p true m s l fp nt h =
    sym (step_before p true m s l) ∙ rw (h, fp) (none_first (record_bits (tree_level (length p) m s)) (rw h at (edge_bit p false m s l fp) ∙ nt))
first_step p false m s l fp nt h =
    sym (step_before p false m s l) ∙ rw (h, fp) (unfold ones in refl)

first_odd : (e : List Bool) (r : ℕ) → (odd (first_edge e r) && get_or e (2 * r) false) ≡ false
unfolding first_edge
first_odd e r = go (get_or e (2 * r) false)
  where
    go : (c : Bool) → (odd (2 * r + bit (not c)) && c) ≡ false
    go true = rw (odd_bit false (2 * r + 0) (omega arith))
    go false = and-false (odd (2 * r + 1))

at_first : (e : List Bool) (r o : ℕ) → o ≡ first_edge e r → (get_or e (2 * r) false || get_or e (2 * r + 1) false) ≡ true
    → (o / 2 ≡ r) × ((get_or e o false ≡ true) × ((odd o && get_or e (2 * r) false) ≡ false))
at_first e r o q h = (rw q (first_half e r), (rw q (first_set e r h), rw q (first_odd e r)))

module _ (m : ℕ) (s : KeySet) (some : inhabited m s ≡ true) where
  turns_is : (g : ℕ → ℕ) (d : ℕ) → d < m → (h : Leading (edges m s) (suc d) g)
      → turns (edges m s) (g d) ≡ (not (odd (g d)) && has_prefix (key_of g d ++ true ∷ []) m s)
  unfolding turns
  turns_is g d l h =
      let i = path_prefix m s some g d (omega arith) h.0 in
      let p : Key = key_of g d in
      let pl : length p < m = omega (arith, key_length g d) in
      let o : g d ≡ 2 * record_index p m s + bit (odd (g d)) = split g d (record_index p m s) (h.1.0 ∙ sym i.1) in
      go i p pl (odd (g d)) o
    where
      go : (has_prefix (key_of g d) m s ≡ true) × (record_index (key_of g d) m s ≡ record_at (edges m s) g d) → (p : Key) → length (key_of g d) < m → (b : Bool) → g d ≡ 2 * record_index (key_of g d) m s + bit b
          → (not b && get_or (edges m s) (g d + 1) false) ≡ (not b && has_prefix (key_of g d ++ true ∷ []) m s)
      go i p pl true o = refl
      go i p pl false o =
          let z : g d + 1 ≡ 2 * record_index (key_of g d) m s + 1 = omega (arith, o) in
          rw z (nav_bit (key_of g d) true m s pl i.0)

  -- a path that turns nowhere is the last found one
  pub last_path : (g : ℕ → ℕ) → ((d : ℕ) → d ≤ m → Leading (edges m s) d g) → ((d : ℕ) → d < m → turns (edges m s) (g d) ≡ false)
      → (d : ℕ) → d ≤ m → suc (prefixes_before (key_of g d) m s) ≡ prefix_count d m s
  last_path g lead nt zero l = unfold key_of tabulate prefixes_before in sym (count_one m s some)
  last_path g lead nt (suc d) l =
      let i = path_prefix m s some g d (omega arith) (lead d (omega arith)) in
      let j = path_prefix m s some g (suc d) l (lead (suc d) l) in
      let n : length (key_of g d) ≡ d = key_length g d in
      rw (key_suc g d, ← (ap (λ x. prefix_count (suc x) m s) n))
      (last_step (key_of g d) (odd (g d)) m s (omega (arith, n)) i.0 (rw (key_suc g d) at j.0)
      (sym (turns_is g d l (lead (suc d) l)) ∙ nt d l)
      (last_path g lead nt d (omega arith) ∙ ap (λ x. prefix_count x m s) (sym n)))

  pub last_member : (g : ℕ → ℕ) → ((d : ℕ) → d ≤ m → Leading (edges m s) d g) → ((d : ℕ) → d < m → turns (edges m s) (g d) ≡ false)
      → suc (prefixes_before (key_of g m) m s) ≡ length (members m s)
  last_member g lead nt = last_path g lead nt m (omega arith) ∙ sym (length_members m s)

  -- a path that takes the first edge everywhere leads, and is the first found one
  pub first_path : (g : ℕ → ℕ) → ((d : ℕ) → d < m → g d ≡ first_edge (edges m s) (record_at (edges m s) g d))
      → (d : ℕ) → d ≤ m → Leading (edges m s) d g × (prefixes_before (key_of g d) m s ≡ 0)
  first_path g h zero l = (tt, unfold key_of tabulate prefixes_before in refl)
  first_path g h (suc d) l =
      let i = first_path g h d (omega arith) in
      let q = path_prefix m s some g d (omega arith) i.0 in
      let p : Key = key_of g d in
      let pl : length (key_of g d) < m = omega (arith, key_length g d) in
      let r : ℕ = record_at (edges m s) g d in
      let z : 2 * record_index (key_of g d) m s + bit false ≡ 2 * record_index (key_of g d) m s = omega arith in
      let a : get_or (edges m s) (2 * record_at (edges m s) g d) false ≡ has_prefix (key_of g d ++ false ∷ []) m s = rw (← q.1) (rw z at (nav_bit (key_of g d) false m s pl q.0)) in
      let w = at_first (edges m s) (record_at (edges m s) g d) (g d) (h d l) (record_some m s some g d l i.0) in
      ((i.0, (w.0, w.1.0)), rw (key_suc g d) (first_step (key_of g d) (odd (g d)) m s pl q.0 (rw a at w.1.1) i.1))
