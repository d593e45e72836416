-- The first member's path.
use mathlib.Core.Path.{◌≡◌, refl, sym, ap, ◌∙◌}
use Prim.Native.Nat.{ℕ, zero, suc, ◌+◌, ◌*◌, ◌/◌, ◌≤◌, ◌<◌}
use mathlib.Core.Bool.{Bool, true, false}
use mathlib.Core.List.{List, []}
use native.Mathlib.Omega.{arith}
use native.Mathlib.Decide.{dec_le}
use lib.ListN.{length, get_or, set, length-set}
use lib.Seq.{get_or-set_same, get_or-set_other}
use Rattle.loes.specs.Bytes.{tabulate, front}
use Rattle.loes.specs.Keys.{members}
use Rattle.loes.specs.Edges.{rank, edges}
use Rattle.loes.specs.Prefixes.{records_before, record_index, prefixes_before}
use Rattle.loes.specs.Encode.{level_end}
use Rattle.loes.proofs.Navigation.{length_edges_before}
use Rattle.loes.specs.Entry.{Entry, keys_of, count, edges_of, edge_count, Valid}
use Rattle.loes.specs.Cursor.{path_of, key_of}
use Rattle.loes.proofs.Bytes.{length_tabulate, get_d_tabulate}
use Rattle.loes.proofs.Tree.{prefix_whole, members_at, index_lt}
use Rattle.query.proofs.BitLists.{set_below}
use Rattle.query.proofs.Levels.{some_key}
use Rattle.query.proofs.Paths.{record_at, Leading, key_length, offsets_are}
use Rattle.query.proofs.Ascent.{front_by}
use Rattle.cursor.specs.Moves.{first_edge}
use Rattle.cursor.proofs.Moves.{path_prefix}
use Rattle.cursor.proofs.Ends.{first_path}

-- the records and offsets of the first path
unfoldable first_record : List Bool → ℕ → ℕ
first_record e zero = 0
first_record e (suc d) = rank e (suc (first_edge e (first_record e d)))

unfoldable first_at : List Bool → ℕ → ℕ
first_at e d = first_edge e (first_record e d)

record_first : (e : List Bool) (d : ℕ) → record_at e (first_at e) d ≡ first_record e d
unfolding record_at first_at first_record
record_first e zero = refl
record_first e (suc d) = refl

-- the first d offsets are in the list, and r is the record on level d
pub record FirstTo (e : Entry) (os₀ os : List ℕ) (r d : ℕ) : Type 0 where
  pub most : d ≤ e.width
  on : r ≡ first_record (edges_of e) d
  pub size : length os ≡ length os₀
  done : (j : ℕ) → j < d → get_or os j 0 ≡ first_at (edges_of e) j
  rest : (j : ℕ) → d ≤ j → get_or os j 0 ≡ get_or os₀ j 0

module _ (e : Entry) (v : Valid e) (pos : 0 < edge_count e) where
  leads : (d : ℕ) → d ≤ e.width
      → Leading (edges e.width e.set) d (first_at (edges e.width e.set)) × (prefixes_before (key_of (first_at (edges e.width e.set)) d) e.width e.set ≡ 0)
  leads =
      first_path e.width e.set (some_key e v [] pos) (first_at (edges e.width e.set))
      (λ d x. unfold first_at in ap (first_edge (edges e.width e.set)) (sym (record_first (edges e.width e.set) d)))

  first_in : e.set (key_of (first_at (edges e.width e.set)) e.width) ≡ true
  first_in =
      let f : ℕ → ℕ = first_at (edges e.width e.set) in
      sym (prefix_whole (key_of f e.width) e.width e.set (key_length f e.width))
      ∙ (path_prefix e.width e.set (some_key e v [] pos) f e.width (omega arith) (leads e.width (omega arith)).0).0

  -- there is a first member
  pub first_some : 0 < count e
  unfolding count keys_of
  first_some =
      let f : ℕ → ℕ = first_at (edges e.width e.set) in
      omega (arith, index_lt (key_of f e.width) e.width e.set (key_length f e.width) first_in)

  first_key : get_or (keys_of e) 0 [] ≡ key_of (first_at (edges e.width e.set)) e.width
  unfolding keys_of
  first_key =
      let f : ℕ → ℕ = first_at (edges e.width e.set) in
      ap (λ x. get_or (members e.width e.set) x []) (sym (leads e.width (omega arith)).1)
      ∙ members_at (key_of f e.width) e.width e.set (key_length f e.width) first_in

  path_first : path_of e (get_or (keys_of e) 0 []) ≡ tabulate (first_at (edges_of e)) e.width
  unfolding path_of edges_of
  path_first = ap (path_of e) first_key ∙ (offsets_are (edges e.width e.set) (first_at (edges e.width e.set)) e.width (leads e.width (omega arith)).0).0

  -- the path comes to the first record of each level
  level_first : (d : ℕ) → d < e.width → level_end e d / 2 ≡ first_record (edges_of e) (suc d)
  unfolding level_end record_index edges_of
  level_first d l =
      let m : ℕ = e.width in
      let f : ℕ → ℕ = first_at (edges m e.set) in
      let p = (path_prefix m e.set (some_key e v [] pos) f (suc d) l (leads (suc d) l).0).1 in
      let n : records_before (length (key_of f (suc d))) m e.set ≡ records_before (suc d) m e.set = ap (λ x. records_before x m e.set) (key_length f (suc d)) in
      omega (arith, p, n, (leads (suc d) l).1, length_edges_before (suc d) m e.set l, record_first (edges m e.set) (suc d))

  module _ (os₀ : List ℕ) (long : e.width ≤ length os₀) where
    pub first_start : FirstTo e os₀ os₀ 0 0
    first_start = record { most = omega arith; on = unfold first_record in refl; size = refl; done = λ j x. absurd (omega arith); rest = λ j x. refl }

    module _ (os : List ℕ) (r d : ℕ) (w : FirstTo e os₀ os r d) (dm : d < e.width) where
      is_set : get_or (edges_of e) (first_edge (edges_of e) r) false ≡ true
      unfolding first_at edges_of
      is_set = rw w.on (leads (suc d) dm).0.1.1

      pub first_room : (2 * r < edge_count e) × (first_edge (edges_of e) r < edge_count e)
      unfolding first_edge edge_count
      first_room = let z = set_below (edges_of e) (first_edge (edges_of e) r) is_set in (omega (arith, z), z)

      pub first_next : (x r' : ℕ) → x ≡ first_edge (edges_of e) r → r' ≡ level_end e d / 2 → FirstTo e os₀ (set os d x) r' (d + 1)
      unfolding first_at
      first_next x r' q z =
          let s : d + 1 ≡ suc d = omega arith in
          record {
            most = omega arith;
            on = rw s (z ∙ level_first d dm);
            size = length-set os d x ∙ w.size;
            done = λ j y. elim (dec_le d j) [
              | yes g ↦
                  let k : j ≡ d = omega arith in
                  ap (λ i. get_or (set os d x) i 0) k ∙ get_or-set_same os d x 0 (omega (arith, w.size, long)) ∙ q ∙ ap (first_edge (edges_of e)) w.on
                  ∙ ap (λ i. first_edge (edges_of e) (first_record (edges_of e) i)) (sym k)
              | no g ↦ get_or-set_other os d j x 0 (λ k. omega arith) ∙ w.done j (omega arith)
            ];
            rest = λ j y. get_or-set_other os d j x 0 (λ k. omega arith) ∙ w.rest j (omega arith);
          }

    pub first_end : (os : List ℕ) (r d : ℕ) → FirstTo e os₀ os r d → e.width ≤ d → os ≡ front (path_of e (get_or (keys_of e) 0 [])) os₀
    first_end os r d w q =
        let n = length_tabulate (first_at (edges_of e)) e.width in
        rw path_first
        (front_by (tabulate (first_at (edges_of e)) e.width) os₀ os (omega (arith, n)) w.size
        (λ j x. w.done j (omega (arith, n)) ∙ sym (get_d_tabulate (first_at (edges_of e)) e.width j 0 (omega (arith, n))))
        (λ j x. w.rest j (omega (arith, n, w.most))))
