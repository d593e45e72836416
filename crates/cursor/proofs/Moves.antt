-- Paths that lead are the members'; the next member's path from a member's.
use mathlib.Core.Path.{◌≡◌, refl, sym, ap, ◌∙◌}
use Prim.Native.Nat.{ℕ, zero, suc, ◌+◌, ◌*◌, ◌/◌, ◌%◌, ◌≤◌, ◌<◌}
use mathlib.Core.Bool.{Bool, true, false, ◌&&◌, ◌||◌, not, false≢true}
use mathlib.Core.List.{List, [], ◌∷◌, ◌++◌}
use native.Mathlib.Omega.{arith}
use native.Mathlib.Decide.{dec_le}
use lib.ListN.{length, get_or}
use lib.Dec.{ltb}
use borrow.Author.Tests.{ne_eqb}
use Rattle.loes.specs.Bytes.{bit, odd, tabulate}
use Rattle.loes.specs.Keys.{Key, KeySet, members}
use Rattle.loes.specs.Edges.{rank, edges}
use Rattle.loes.specs.Prefixes.{half, inhabited, prefixes_before, records_before, record_index}
use Rattle.loes.specs.Cursor.{key_of}
use Rattle.loes.proofs.Bits.{bit_odd}
use Rattle.loes.proofs.Tests.{lt_yes, lt_no, eq_yes}
use Rattle.loes.proofs.Tree.{has_prefix, bit_le, prefix_whole, members_at}
use Rattle.loes.proofs.Navigation.{nav_bit, nav_rank, record_nil}
use Rattle.loes.proofs.Lists.{rank_set, rank_empty}
use Rattle.query.proofs.Paths.{record_at, Leading, key_length, key_suc, split}
use Rattle.cursor.specs.Moves.{turns, first_edge, behind, moved_on}

-- some member goes on
pub prefix_child : (p : Key) (m : ℕ) (s : KeySet) → length p < m → has_prefix p m s ≡ true → (has_prefix (p ++ false ∷ []) m s || has_prefix (p ++ true ∷ []) m s) ≡ true
unfolding has_prefix inhabited
prefix_child p zero s l h = absurd (omega arith)
prefix_child [] (suc m) s l h = h
prefix_child (b ∷ p) (suc m) s l h = prefix_child p m (half b s) (omega arith) h

module _ (m : ℕ) (s : KeySet) (some : inhabited m s ≡ true) where
  -- the prefix of a path that leads is found, and its record is where the path comes to
  pub path_prefix : (g : ℕ → ℕ) (d : ℕ) → d ≤ m → Leading (edges m s) d g
      → (has_prefix (key_of g d) m s ≡ true) × (record_index (key_of g d) m s ≡ record_at (edges m s) g d)
  unfolding record_at
  path_prefix g zero l h = (unfold key_of tabulate has_prefix in some, unfold key_of tabulate in record_nil m s)
  path_prefix g (suc d) l h =
      let i = path_prefix g d (omega arith) h.0 in
      let p : Key = key_of g d in
      let pl : length p < m = omega (arith, key_length g d) in
      let o : g d ≡ 2 * record_index p m s + bit (odd (g d)) = split g d (record_index p m s) (h.1.0 ∙ sym i.1) in
      let f : has_prefix (p ++ odd (g d) ∷ []) m s ≡ true = sym (nav_bit p (odd (g d)) m s pl i.0) ∙ ap (λ x. get_or (edges m s) x false) (sym o) ∙ h.1.1 in
      (rw (key_suc g d) f, rw (key_suc g d) (sym (nav_rank p (odd (g d)) m s pl f) ∙ ap (λ x. rank (edges m s) (suc x)) (sym o)))

  -- the record that a path comes to has an edge
  pub record_some : (g : ℕ → ℕ) (d : ℕ) → d < m → Leading (edges m s) d g
      → (get_or (edges m s) (2 * record_at (edges m s) g d) false || get_or (edges m s) (2 * record_at (edges m s) g d + 1) false) ≡ true
  record_some g d l h =
      let i = path_prefix g d (omega arith) h in
      let p : Key = key_of g d in
      let pl : length p < m = omega (arith, key_length g d) in
      let z : 2 * record_index p m s + bit false ≡ 2 * record_index p m s = omega arith in
      let a : get_or (edges m s) (2 * record_index p m s) false ≡ has_prefix (p ++ false ∷ []) m s = rw z at (nav_bit p false m s pl i.0) in
      rw (← i.1, a, nav_bit p true m s pl i.0) (prefix_child p m s pl i.0)

-- ---- moving on
pub first_set : (e : List Bool) (r : ℕ) → (get_or e (2 * r) false || get_or e (2 * r + 1) false) ≡ true → get_or e (first_edge e r) false ≡ true
unfolding first_edge
first_set e r h = go (get_or e (2 * r) false) refl h
  where
    go : (c : Bool) → get_or e (2 * r) false ≡ c → (c || get_or e (2 * r + 1) false) ≡ true → get_or e (2 * r + bit (not c)) false ≡ true
    go true z h = let y : 2 * r + 0 ≡ 2 * r = omega arith in rw y z
    go false z h = h

pub first_half : (e : List Bool) (r : ℕ) → first_edge e r / 2 ≡ r
unfolding first_edge
first_half e r = omega (arith, bit_le (not (get_or e (2 * r) false)))

-- between a set bit that does not turn and the first set bit of the next record none is set
rank_over : (e : List Bool) (o : ℕ) → turns e o ≡ false → rank e (first_edge e (o / 2 + 1)) ≡ rank e (suc o)
unfolding turns first_edge
rank_over e o t = first (get_or e (2 * (o / 2 + 1)) false) refl ∙ own (odd o) refl t
  where
    first : (c : Bool) → get_or e (2 * (o / 2 + 1)) false ≡ c → rank e (2 * (o / 2 + 1) + bit (not c)) ≡ rank e (2 * (o / 2 + 1))
    first true z = ap (rank e) (omega arith)
    first false z = let y : 2 * (o / 2 + 1) + 1 ≡ suc (2 * (o / 2 + 1)) = omega arith in rw y (rank_empty e (2 * (o / 2 + 1)) z)

    own : (b : Bool) → odd o ≡ b → (not b && get_or e (o + 1) false) ≡ false → rank e (2 * (o / 2 + 1)) ≡ rank e (suc o)
    own true b t = ap (rank e) (let q = ap bit b in omega (arith, bit_odd o, q))
    own false b t =
        let q = ap bit b in
        let y : 2 * (o / 2 + 1) ≡ suc (suc o) = omega (arith, bit_odd o, q) in
        let z : o + 1 ≡ suc o = omega arith in
        rw y (rank_empty e (suc o) (rw z at t))

-- what the path moved on has on each level
pub moved_above : (e : List Bool) (t : ℕ) (f : ℕ → ℕ) (d : ℕ) → d < t → moved_on e t f d ≡ f d
unfolding moved_on
moved_above e t f d h = rw (lt_yes d t h)

pub moved_at : (e : List Bool) (t : ℕ) (f : ℕ → ℕ) → moved_on e t f t ≡ f t + 1
unfolding moved_on behind
moved_at e t f = rw (lt_no t t (omega arith), eq_yes t)

pub moved_below : (e : List Bool) (t : ℕ) (f : ℕ → ℕ) (d : ℕ) → t < d → moved_on e t f d ≡ first_edge e (f d / 2 + 1)
unfolding moved_on behind
moved_below e t f d h = rw (lt_no d t (omega arith), ne_eqb d t (λ q. omega arith))

-- where it comes to: the same records to the level of the turn, the next ones below
turn_set : (e : List Bool) (o : ℕ) → turns e o ≡ true → (o % 2 ≡ 0) × (get_or e (o + 1) false ≡ true)
unfolding turns
turn_set e o h = go (odd o) refl h
  where
    go : (b : Bool) → odd o ≡ b → (not b && get_or e (o + 1) false) ≡ true → (o % 2 ≡ 0) × (get_or e (o + 1) false ≡ true)
    go true z h = absurd (false≢true h)
    go false z h = (sym (bit_odd o) ∙ ap bit z, h)

module _ (m : ℕ) (s : KeySet) (some : inhabited m s ≡ true) (f : ℕ → ℕ) (t : ℕ) (lead : (d : ℕ) → d ≤ m → Leading (edges m s) d f)
    (tm : t < m) (turn : turns (edges m s) (f t) ≡ true) (stuck : (d : ℕ) → t < d → d < m → turns (edges m s) (f d) ≡ false) where
  abbrev g : ℕ → ℕ
  g = moved_on (edges m s) t f

  on_level : (d : ℕ) → d < m → Leading (edges m s) d g → record_at (edges m s) g d ≡ record_at (edges m s) f d + bit (ltb t d)
      → ((g d / 2 ≡ record_at (edges m s) g d) × (get_or (edges m s) (g d) false ≡ true)) × (rank (edges m s) (suc (g d)) ≡ rank (edges m s) (suc (f d)) + bit (ltb t (suc d)))
  on_level d dm le at =
      let w = (lead (suc d) dm).1 in
      elim (dec_le (suc d) t) [
        | yes l ↦
            let q : g d ≡ f d = moved_above (edges m s) t f d l in
            let a : record_at (edges m s) g d ≡ record_at (edges m s) f d = at ∙ rw (lt_no t d (omega arith)) (omega arith) in
            ((rw q (w.0 ∙ sym a), rw q w.1), rw (q, lt_no t (suc d) l) (omega arith))
        | no l ↦ elim (dec_le d t) [
          | yes k ↦
              let z : d ≡ t = omega arith in
              let y = turn_set (edges m s) (f t) turn in
              let q : g d ≡ f d + 1 = rw z (moved_at (edges m s) t f) in
              let a : record_at (edges m s) g d ≡ record_at (edges m s) f d = at ∙ rw (lt_no t d (omega arith)) (omega arith) in
              let v : f d % 2 ≡ 0 = rw z y.0 in
              let u : get_or (edges m s) (f d + 1) false ≡ true = rw z y.1 in
              let n : f d + 1 ≡ suc (f d) = omega arith in
              ((rw q (omega (arith, w.0, a, v)), rw q u), rw (q, lt_yes t (suc d) (omega arith), n) (rank_set (edges m s) (suc (f d)) (rw n at u) ∙ omega arith))
          | no k ↦
              let td : t < d = omega arith in
              let q : g d ≡ first_edge (edges m s) (f d / 2 + 1) = moved_below (edges m s) t f d td in
              let a : record_at (edges m s) g d ≡ f d / 2 + 1 = at ∙ rw (lt_yes t d td) (ap (λ x. x + 1) (sym w.0)) in
              let u : get_or (edges m s) (first_edge (edges m s) (f d / 2 + 1)) false ≡ true = first_set (edges m s) (f d / 2 + 1) (rw a at (record_some m s some g d dm le)) in (
                (rw q (first_half (edges m s) (f d / 2 + 1) ∙ sym a), rw q u),
                rw (q, lt_yes t (suc d) (omega arith)) (rank_set (edges m s) (first_edge (edges m s) (f d / 2 + 1)) u ∙ ap suc (rank_over (edges m s) (f d) (stuck d td dm)) ∙ omega arith),
              )
        ]
      ]

  -- the path moved on leads, and from the level of the turn on it is one record ahead
  pub moved_leads : (d : ℕ) → d ≤ m → Leading (edges m s) d g × (record_at (edges m s) g d ≡ record_at (edges m s) f d + bit (ltb t d))
  unfolding record_at
  moved_leads zero l = (tt, rw (lt_no t 0 (omega arith)))
  moved_leads (suc d) l =
      let i = moved_leads d (omega arith) in
      let o = on_level d l i.0 i.1 in
      ((i.0, o.0), o.1)

  -- its key is the next member
  pub next_before : prefixes_before (key_of g m) m s ≡ suc (prefixes_before (key_of f m) m s)
  next_before =
      let a = moved_leads m (omega arith) in
      let p = (path_prefix m s some g m (omega arith) a.0).1 in
      let q = (path_prefix m s some f m (omega arith) (lead m (omega arith))).1 in
      let r : record_index (key_of g m) m s ≡ suc (record_index (key_of f m) m s) = p ∙ a.1 ∙ rw (lt_yes t m tm) (ap (λ x. x + 1) (sym q) ∙ omega arith) in
      let u : record_index (key_of g m) m s ≡ records_before m m s + prefixes_before (key_of g m) m s = unfold record_index in rw (key_length g m) in
      let v : record_index (key_of f m) m s ≡ records_before m m s + prefixes_before (key_of f m) m s = unfold record_index in rw (key_length f m) in
      omega (arith, r, u, v)

  pub next_member : get_or (members m s) (suc (prefixes_before (key_of f m) m s)) [] ≡ key_of g m
  next_member =
      let a = (path_prefix m s some g m (omega arith) (moved_leads m (omega arith)).0).0 in
      rw (← next_before) (members_at (key_of g m) m s (key_length g m) (sym (prefix_whole (key_of g m) m s (key_length g m)) ∙ a))
