-- Ends of levels: what they are in the edge sequence of a set, and that they make a sequence one
use mathlib.Core.Path.{◌≡◌, refl, sym, ap, ◌∙◌}
use Prim.Native.Nat.{ℕ, zero, suc, ◌+◌, ◌-◌, ◌*◌, ◌/◌, ◌≤◌, ◌<◌}
use mathlib.Core.Bool.{Bool, true, false}
use mathlib.Core.List.{List, [], ◌∷◌, ◌++◌}
use native.Mathlib.Omega.{arith}
use native.Mathlib.Decide.{le_ind}
use lib.ListN.{length, take, drop, length-append, length-drop, drop_of_length-le, take-append-drop}
use lib.Seq.{take_at, take-add, drop-drop, length-take-le}
use lib.Dec.{ltb}
use Rattle.loes.specs.Bytes.{bit}
use Rattle.loes.specs.Keys.{Key, KeySet, members}
use Rattle.loes.specs.Edges.{Record, record_bits, ones, rank, edges, edges_before, present}
use Rattle.loes.specs.Prefixes.{inhabited, prefix_count, records_before, roots, ends}
use Rattle.loes.specs.Entry.{of_width}
use Rattle.loes.proofs.Lists.{ones_append, bits_append, rank_more}
use Rattle.loes.proofs.Tests.{lt_yes, eq_yes}
use Rattle.loes.proofs.Tree.{tree_level, tree_empty, level_tree, length_tree, count_one, length_members}
use Rattle.loes.proofs.Navigation.{length_edges_before, ones_edges_before, edges_from, edges_empty, no_edges}
use Rattle.loes.proofs.Extensional.{edges_ext}
use Rattle.loes.proofs.Forest.{NoEmpty, none as noKeys, inhabited_none}
use Rattle.loes.proofs.WellFormed.{records_in, records_bits, WellFormed, well_present, no_empty_append, no_empty_tree}

-- ---- In the edge sequence of a set
-- the levels before level d are the front of the sequence
front : (d m : ℕ) (s : KeySet) → d ≤ m → take (length (edges_before d m s)) (edges m s) ≡ edges_before d m s
unfolding edges
front d m s h =
    let r = edges_from d m m s h in
    rw r.1 (take_at (edges_before d m s) r.0 (length (edges_before d m s)) refl)

pub ends_set : (d m : ℕ) (s : KeySet) → d ≤ m → length (edges_before d m s) ≡ ends (prefix_count 0 m s) (edges m s) d
unfolding ends rank edges_before
ends_set zero m s h = refl
ends_set (suc d) m s h =
    let i : length (edges_before d m s) ≡ ends (prefix_count 0 m s) (edges m s) d = ends_set d m s (omega arith) in
    rw (← i, front d m s (omega arith)) (unfold edges_before in omega (arith, length_edges_before (suc d) m s h, ones_edges_before d m s (omega arith)))

some_edges : (m : ℕ) (s : KeySet) → 0 < m → prefix_count 0 m s ≡ 1 → 0 < length (edges m s)
unfolding edges records_before
some_edges m s p c =
    let a = edges_from 1 m m s p in
    let b : length (edges_before 1 m s) ≡ 2 * (0 + prefix_count 0 m s) = length_edges_before 1 m s p in
    rw (a.1, length-append) (omega (arith, b, c))

pub roots_set : (m : ℕ) (s : KeySet) → 0 < m → prefix_count 0 m s ≡ roots (length (edges m s))
unfolding roots
roots_set m s p = go (inhabited m s) refl
  where
    go : (c : Bool) → inhabited m s ≡ c → prefix_count 0 m s ≡ bit (ltb 0 (length (edges m s)))
    go true h = let c : prefix_count 0 m s ≡ 1 = count_one m s h in rw (lt_yes 0 (length (edges m s)) (some_edges m s p c), c)
    go false h =
        let l : length (tree_level 0 m s) ≡ prefix_count 0 m s = length_tree 0 m s p in
        rw (edges_empty m s h) (sym l ∙ ap length (tree_empty 0 m s h))

-- the members: the set bits that lead to no record
pub count_set : (m : ℕ) (s : KeySet) → length (members m s) ≡ prefix_count 0 m s + ones (edges m s) - length (edges m s) / 2
unfolding edges records_before
count_set m s = omega (arith, length_members m s, ones_edges_before m m s (omega arith), length_edges_before m m s (omega arith))

-- no record is clear
full_parts : (d m : ℕ) (s : KeySet) → d ≤ m → (rs : List Record) × (edges_before d m s ≡ record_bits rs) × NoEmpty rs
unfolding edges_before record_bits
full_parts zero m s h = ([], refl, tt)
full_parts (suc d) m s h =
    let p = full_parts d m s (omega arith) in
    (p.0 ++ tree_level d m s, rw (p.1, level_tree d m s h) (sym (bits_append p.0 (tree_level d m s))), no_empty_append p.0 (tree_level d m s) p.2 (no_empty_tree d m s))

pub full_set : (m : ℕ) (s : KeySet) → NoEmpty (records_in (edges m s))
unfolding edges
full_set m s = let p = full_parts m m s (omega arith) in rw (p.1, records_bits p.0) p.2

-- ---- The other way
-- recs of a front and of what is behind it
records_append : (r : ℕ) (x y : List Bool) → length x ≡ 2 * r → records_in (x ++ y) ≡ records_in x ++ records_in y
unfolding records_in
records_append r [] y h = refl
records_append r (a ∷ []) y h = absurd (omega arith)
records_append zero (a ∷ b ∷ x) y h = absurd (omega arith)
records_append (suc r) (a ∷ b ∷ x) y h = rw (records_append r x y (omega arith))

no_empty_split : (l r : List Record) → NoEmpty (l ++ r) → NoEmpty l × NoEmpty r
no_empty_split [] r h = (tt, h)
no_empty_split (x ∷ l) r h = let t = no_empty_split l r h.1 in ((h.0, t.0), t.1)

-- the front of 2 r bits and the rest
no_empty_cut : (r : ℕ) (e : List Bool) → 2 * r ≤ length e → NoEmpty (records_in e) → NoEmpty (records_in (take (2 * r) e)) × NoEmpty (records_in (drop (2 * r) e))
no_empty_cut r e h n =
    let a : records_in e ≡ records_in (take (2 * r) e) ++ records_in (drop (2 * r) e) =
    ap records_in (sym (take-append-drop (2 * r) e)) ∙ records_append r (take (2 * r) e) (drop (2 * r) e) (length-take-le (2 * r) e h) in
    no_empty_split (records_in (take (2 * r) e)) (records_in (drop (2 * r) e)) (rw a at n)

pub ends_grow : (c : ℕ) (e : List Bool) (d : ℕ) → ends c e d ≤ ends c e (suc d)
unfolding ends
ends_grow c e zero = omega arith
ends_grow c e (suc d) = omega (arith, rank_more e (ends c e d) (ends c e (suc d)) (ends_grow c e d))

ends_le : (c : ℕ) (e : List Bool) (d m : ℕ) → d ≤ m → ends c e d ≤ ends c e m
ends_le c e d m h = le_ind (λ (j : ℕ). ends c e d ≤ ends c e j) (omega arith) (λ j l i. omega (arith, i, ends_grow c e j)) m h

ends_even : (c : ℕ) (e : List Bool) (d : ℕ) → ends c e d ≡ 2 * (ends c e d / 2)
unfolding ends rank
ends_even c e zero = omega arith
ends_even c e (suc d) = omega arith

ends_next : (c : ℕ) (e : List Bool) (d : ℕ) → ends c e (suc d) ≡ 2 * (c + ones (take (ends c e d) e))
unfolding ends rank
ends_next c e d = refl

well_from : (j d m : ℕ) (e : List Bool) → d + j ≡ m → ends 1 e m ≡ length e → NoEmpty (records_in (drop (ends 1 e d) e))
    → WellFormed j (1 + ones (take (ends 1 e d) e) - ends 1 e d / 2) (drop (ends 1 e d) e)
well_from zero d m e h q n =
    let z : d ≡ m = omega arith in
    rw (z) (drop_of_length-le e {i = ends 1 e m} (omega arith))
well_from (suc j) d m e h q n =
    let a : ℕ = ends 1 e d in
    let b : ℕ = ends 1 e (suc d) in
    let r : ℕ = 1 + ones (take a e) - a / 2 in
    let nx : b ≡ 2 * (1 + ones (take a e)) = ends_next 1 e d in
    let g : a ≤ b = ends_grow 1 e d in
    let k : b ≤ length e = omega (arith, ends_le 1 e (suc d) m (omega arith)) in
    let v : a ≡ 2 * (a / 2) = ends_even 1 e d in
    let t : a + 2 * r ≡ b = omega (arith, nx, g, v) in
    let l : 2 * r ≤ length (drop a e) = omega (arith, length-drop a e) in
    let c = no_empty_cut r (drop a e) l n in
    let dd : drop (2 * r) (drop a e) ≡ drop b e = drop-drop (2 * r) a e ∙ ap (λ x. drop x e) t in
    let o : ones (take b e) ≡ ones (take a e) + ones (take (2 * r) (drop a e)) = ap (λ x. ones (take x e)) (sym t) ∙ ap ones (take-add a (2 * r) e) ∙ ones_append (take a e) (take (2 * r) (drop a e)) in
    let o2 : ones (take (2 * r) (drop a e)) ≡ 1 + ones (take b e) - b / 2 = omega (arith, o, nx) in
    (l, c.0, rw (o2, dd) (well_from j (suc d) m e (omega arith) q (rw dd at c.1)))

pub well_ends : (m : ℕ) (e : List Bool) → NoEmpty (records_in e) → ends 1 e m ≡ length e → WellFormed m 1 e
unfolding ends rank ones
well_ends m e n q = well_from m 0 m e (omega arith) q n

-- ---- The set got by following edges has these edges
only_in : (m : ℕ) (s : KeySet) (k : Key) → length k ≡ m → of_width m s k ≡ s k
unfolding of_width
only_in m s k h = rw (h, eq_yes m)

only_none : (m : ℕ) (k : Key) → 0 < m → length k ≡ m → of_width m (present []) k ≡ noKeys k
unfolding present noKeys
only_none m k p h = only_in m (present []) k h ∙ no_edges k (omega arith)

pub follows_itself : (m : ℕ) (e : List Bool) → 0 < m → NoEmpty (records_in e) → ends (roots (length e)) e m ≡ length e → edges m (of_width m (present e)) ≡ e
unfolding roots
follows_itself m [] p n q = edges_ext m (of_width m (present [])) noKeys (λ k h. only_none m k p h) ∙ edges_empty m noKeys (inhabited_none m)
follows_itself zero (b ∷ e) p n q = absurd (omega arith)
follows_itself (suc m) (b ∷ e) p n q =
    let c : ltb 0 (suc (length e)) ≡ true = lt_yes 0 (suc (length e)) (omega arith) in
    edges_ext (suc m) (of_width (suc m) (present (b ∷ e))) (present (b ∷ e)) (λ k h. only_in (suc m) (present (b ∷ e)) k h)
    ∙ well_present m (b ∷ e) (well_ends (suc m) (b ∷ e) n (rw c at q))
