-- From a member's path to the next member's.
use mathlib.Core.Path.{◌≡◌, sym, ap, ◌∙◌}
use Prim.Native.Nat.{ℕ, suc, ◌+◌, ◌-◌, ◌*◌, ◌/◌, ◌≤◌, ◌<◌}
use mathlib.Core.Bool.{Bool, true, false}
use mathlib.Core.List.{List, []}
use native.Mathlib.Omega.{arith}
use lib.ListN.{length, get_or}
use Rattle.loes.specs.Bytes.{tabulate, front}
use Rattle.loes.specs.Keys.{Key, members, smaller}
use Rattle.loes.specs.Edges.{edges}
use Rattle.loes.specs.Prefixes.{inhabited, prefixes_before}
use Rattle.loes.specs.Entry.{Entry, keys_of, count, edges_of, edge_count, Valid}
use Rattle.loes.specs.Cursor.{path_of, key_of, key_of_path, has_path}
use Rattle.loes.proofs.Bytes.{length_tabulate, get_d_tabulate}
use Rattle.loes.proofs.Tree.{before_smaller, prefix_whole, index_lt}
use Rattle.query.proofs.BitLists.{set_below}
use Rattle.query.proofs.Paths.{Leading, key_length, leading_less, lead_some, offsets_are}
use Rattle.query.proofs.Ascent.{front_by}
use Rattle.cursor.specs.Moves.{turns, first_edge, moved_on, TurnsAt, Moved, Movable}
use Rattle.cursor.proofs.Moves.{path_prefix, moved_below, moved_leads, next_before, next_member}
use Rattle.cursor.proofs.Ends.{last_member}
use Rattle.cursor.proofs.Right.{right_leads}

-- the index of the member whose path is in a list of offsets
unfoldable pub index_in : Entry → List ℕ → ℕ
index_in e os = smaller (key_of_path os e.width) (keys_of e)

first_room : (e : List Bool) (b c : ℕ) → first_edge e c < b → 2 * c < b
unfolding first_edge
first_room e b c x = omega (arith, x)

module _ (e : Entry) (v : Valid e) (os : List ℕ) (long : e.width ≤ length os) (a : has_path e os ≡ true) where
  lead : (d : ℕ) → d ≤ e.width → Leading (edges e.width e.set) d (λ (i : ℕ). get_or os i 0)
  unfolding edges_of has_path
  lead d x = leading_less (edges e.width e.set) (λ (i : ℕ). get_or os i 0) e.width d x (right_leads e os long a)

  some : inhabited e.width e.set ≡ true
  some = lead_some e.width e.set (λ (i : ℕ). get_or os i 0) v.positive (lead 1 v.positive)

  index_is : index_in e os ≡ prefixes_before (key_of (λ (i : ℕ). get_or os i 0) e.width) e.width e.set
  unfolding index_in key_of_path keys_of
  index_is = before_smaller (key_of (λ (i : ℕ). get_or os i 0) e.width) e.width e.set (key_length (λ (i : ℕ). get_or os i 0) e.width)

  pub set_edges : (j : ℕ) → j < e.width → get_or (edges_of e) (get_or os j 0) false ≡ true
  unfolding edges_of
  set_edges j x = (lead (suc j) x).1.1

  pub below_edges : (j : ℕ) → j < e.width → get_or os j 0 < edge_count e
  unfolding edge_count edges_of
  below_edges j x = set_below (edges e.width e.set) (get_or os j 0) (lead (suc j) x).1.1

  -- a path that turns nowhere is the last member's
  pub next_none : TurnsAt (edges_of e) e.width os 0 → count e ≤ suc (index_in e os)
  unfolding count keys_of edges_of
  next_none q =
      let z = last_member e.width e.set some (λ (i : ℕ). get_or os i 0) lead (λ d x. q.stuck d (omega arith) x) in
      omega (arith, z, index_is)

  module _ (r : ℕ) (q : TurnsAt (edges_of e) e.width os r) (pos : 0 < r) where
    tm : r - 1 < e.width
    tm = omega (arith, q.most)

    turn : turns (edges e.width e.set) (get_or os (r - 1) 0) ≡ true
    unfolding edges_of
    turn = q.turn pos

    stuck : (d : ℕ) → r - 1 < d → d < e.width → turns (edges e.width e.set) (get_or os d 0) ≡ false
    unfolding edges_of
    stuck d x y = q.stuck d (omega arith) y

    next : ℕ → ℕ
    next = moved_on (edges e.width e.set) (r - 1) (λ (i : ℕ). get_or os i 0)

    leads : (d : ℕ) → d ≤ e.width → Leading (edges e.width e.set) d next
    unfolding next
    leads d x = (moved_leads e.width e.set some (λ (i : ℕ). get_or os i 0) (r - 1) lead tm turn stuck d x).0

    pub movable : Movable (edge_count e) e.width (r - 1) os
    unfolding next edge_count edges_of
    movable = record {
      level = tm;
      room = long;
      small = below_edges (r - 1) tm;
      next = λ j x y.
          let z = set_below (edges e.width e.set) (next j) (leads (suc j) y).1.1 in
          first_room (edges e.width e.set) (length (edges e.width e.set)) (get_or os j 0 / 2 + 1)
          (omega (arith, z, moved_below (edges e.width e.set) (r - 1) (λ (i : ℕ). get_or os i 0) j x));
    }

    key_next : get_or (keys_of e) (suc (index_in e os)) [] ≡ key_of next e.width
    unfolding keys_of next
    key_next =
        ap (λ x. get_or (members e.width e.set) (suc x) []) index_is
        ∙ next_member e.width e.set some (λ (i : ℕ). get_or os i 0) (r - 1) lead tm turn stuck

    path_next : path_of e (get_or (keys_of e) (suc (index_in e os)) []) ≡ tabulate next e.width
    unfolding path_of edges_of
    path_next = ap (path_of e) key_next ∙ (offsets_are (edges e.width e.set) next e.width (leads e.width (omega arith))).0

    pub next_some : suc (index_in e os) < count e
    unfolding count keys_of next
    next_some =
        let k : Key = key_of next e.width in
        let n = key_length next e.width in
        let i : e.set (key_of next e.width) ≡ true = sym (prefix_whole k e.width e.set n) ∙ (path_prefix e.width e.set some next e.width (omega arith) (leads e.width (omega arith))).0 in
        omega (arith, index_lt k e.width e.set n i, next_before e.width e.set some (λ (i : ℕ). get_or os i 0) (r - 1) lead tm turn stuck, index_is)

    pub next_path : (os' : List ℕ) → Moved (edges_of e) e.width (r - 1) os os' → os' ≡ front (path_of e (get_or (keys_of e) (suc (index_in e os)) [])) os
    unfolding edges_of next
    next_path os' w =
        let n = length_tabulate next e.width in
        rw path_next (front_by (tabulate next e.width) os os' (omega (arith, n)) w.size
        (λ j x. w.on j (omega (arith, n)) ∙ sym (get_d_tabulate next e.width j 0 (omega (arith, n)))) (λ j x. w.rest j (omega (arith, n))))
