-- The paths of members are the paths that lead.
use mathlib.Core.Path.{◌≡◌, sym, ap, ◌∙◌}
use Prim.Native.Nat.{ℕ, ◌≤◌, ◌<◌}
use mathlib.Core.Bool.{true}
use mathlib.Core.List.{List, []}
use native.Mathlib.Omega.{arith}
use lib.ListN.{length, take, get_or}
use lib.Seq.{take_all}
use Rattle.loes.proofs.Bits.{take_tabulate}
use Rattle.loes.proofs.Cursors.{any_of_at, any_of_is}
use Rattle.loes.specs.Bytes.{tabulate, same_numbers}
use Rattle.loes.specs.Keys.{Key, any_of, members}
use Rattle.loes.specs.Edges.{edges, edge_offsets}
use Rattle.loes.specs.Prefixes.{inhabited, prefixes_before}
use Rattle.loes.specs.Entry.{Entry, keys_of, count, edges_of}
use Rattle.loes.specs.Cursor.{path_of, key_of}
use Rattle.loes.proofs.Tests.{same_self, same_is}
use Rattle.loes.proofs.Members.{inside_at}
use Rattle.loes.proofs.Bytes.{get_d_tabulate}
use Rattle.loes.proofs.Tree.{prefix_whole, members_at, index_lt}
use Rattle.query.proofs.Paths.{Leading, key_length, offsets_are, leading_ext, leading_less, of_key, key_of_lem, member_leads, lead_some}
use Rattle.cursor.proofs.Moves.{path_prefix}

-- the key of a place, and its path
module _ (e : Entry) (os : List ℕ) (pos : 0 < e.width) (long : e.width ≤ length os) (h : Leading (edges_of e) e.width (λ (i : ℕ). get_or os i 0)) where
  abbrev m : ℕ
  m = e.width

  abbrev g : ℕ → ℕ
  g = λ (i : ℕ). get_or os i 0

  pub lead_inhabited : inhabited e.width e.set ≡ true
  unfolding edges_of
  lead_inhabited = lead_some m e.set g pos (leading_less (edges m e.set) g m 1 pos h)

  pub lead_in : e.set (key_of (λ (i : ℕ). get_or os i 0) e.width) ≡ true
  unfolding edges_of
  lead_in = sym (prefix_whole (key_of g m) m e.set (key_length g m)) ∙ (path_prefix m e.set lead_inhabited g m (omega arith) h).0

  pub lead_path : path_of e (key_of (λ (i : ℕ). get_or os i 0) e.width) ≡ take e.width os
  unfolding path_of edges_of
  lead_path = (offsets_are (edges m e.set) g m h).0 ∙ sym (take_tabulate os m long)

  pub lead_right : any_of (λ (k : Key). same_numbers (path_of e k) (take e.width os)) (keys_of e) ≡ true
  unfolding keys_of
  lead_right =
      any_of_at (λ (k : Key). same_numbers (path_of e k) (take e.width os)) (members m e.set) (prefixes_before (key_of g m) m e.set) []
      (index_lt (key_of g m) m e.set (key_length g m) lead_in)
      (rw (members_at (key_of g m) m e.set (key_length g m) lead_in, lead_path) (same_self (take e.width os)))

pub right_leads : (e : Entry) (os : List ℕ) → e.width ≤ length os → any_of (λ (k : Key). same_numbers (path_of e k) (take e.width os)) (keys_of e) ≡ true
    → Leading (edges_of e) e.width (λ (i : ℕ). get_or os i 0)
unfolding edges_of path_of count
right_leads e os long h =
    let r = any_of_is (λ (k : Key). same_numbers (edge_offsets (edges e.width e.set) 0 k) (take e.width os)) (keys_of e) [] h in
    let k : Key = get_or (keys_of e) r.0 [] in
    let n = inside_at e r.0 r.1 in
    let q : edge_offsets (edges e.width e.set) 0 k ≡ take e.width os = same_is (edge_offsets (edges e.width e.set) 0 k) (take e.width os) r.2 in
    let f : ℕ → ℕ = of_key e.width e.set k in
    let a = (member_leads e.width e.set k n.0 n.1 e.width (omega arith)).0 in
    let kk : key_of (of_key e.width e.set k) e.width ≡ k = key_of_lem e.width e.set k e.width (omega (arith, n.0)) ∙ take_all e.width k (omega (arith, n.0)) in
    let t : tabulate (of_key e.width e.set k) e.width ≡ tabulate (λ (i : ℕ). get_or os i 0) e.width =
    sym (offsets_are (edges e.width e.set) (of_key e.width e.set k) e.width a).0 ∙ ap (edge_offsets (edges e.width e.set) 0) kk ∙ q ∙ take_tabulate os e.width long in
    leading_ext (edges e.width e.set) (of_key e.width e.set k) (λ (i : ℕ). get_or os i 0) e.width
    (λ i l. sym (get_d_tabulate (of_key e.width e.set k) e.width i 0 l) ∙ ap (λ x. get_or x i 0) t ∙ get_d_tabulate (λ (i : ℕ). get_or os i 0) e.width i 0 l) a
