-- From a member's index up to its path: the edge to a record is the set bit of the record's number less 1.
use mathlib.Core.Path.{◌≡◌, refl, sym, ap, ◌∙◌}
use Prim.Native.Nat.{ℕ, suc, ◌+◌, ◌-◌, ◌*◌, ◌/◌, ◌≤◌, ◌<◌}
use mathlib.Core.Bool.{true, false}
use mathlib.Core.List.{List, [], ◌++◌}
use native.Mathlib.Omega.{arith}
use native.Mathlib.Decide.{dec_le}
use lib.ListN.{length, take, drop, get_or, set, length-append, length-drop, length-set, get_or-append}
use lib.Seq.{take_all, length-take-le, ext_get_or, get_or-append-add, get_or-drop, get_or-set_same, get_or-set_other}
use Rattle.loes.specs.Bytes.{Bytes, odd, front}
use Rattle.loes.specs.Read.{entry_in}
use Rattle.encoding.specs.declared.Encoding.{Encoding}
use Rattle.encoding.specs.Opened.{Opens}
use Rattle.encoding.proofs.Opened.{opens_valid}
use Rattle.loes.specs.Keys.{Key, KeySet}
use Rattle.loes.specs.Limits.{max_edges}
use Rattle.loes.specs.Edges.{ones, rank, edges, edges_before, edge_offsets}
use Rattle.loes.specs.Prefixes.{inhabited, prefixes_before, records_before, record_index}
use Rattle.loes.specs.Entry.{Entry, keys_of, count, edges_of, edge_count, Valid}
use Rattle.loes.specs.Cursor.{path_of, key_of, key_of_path}
use Rattle.loes.proofs.Bytes.{get_d_tabulate}
use Rattle.loes.proofs.Bits.{tabulate_ext}
use Rattle.loes.proofs.Tree.{bit_le}
use Rattle.loes.proofs.Navigation.{length_edges_before, rank_level}
use Rattle.loes.proofs.Members.{At, at_place}
use Rattle.loes.proofs.Cursors.{length_offsets}
use Rattle.bits.specs.Tables.{select}
use Rattle.loes.proofs.Lists.{ones_le, rank_set}
use Rattle.query.proofs.BitLists.{up, ones_less}
use Rattle.query.proofs.Paths.{record_at, Leading, offsets_are, of_key, key_of_lem, member_leads}
use Rattle.query.specs.Select.{level_start}
use Rattle.query.proofs.Descent.{inhabited_some}
use Rattle.query.proofs.Select.{select_at, select_le}

-- a list whose front is x
pub front_by : (x l l' : List ℕ) → length x ≤ length l → length l' ≡ length l → ((j : ℕ) → j < length x → get_or l' j 0 ≡ get_or x j 0)
    → ((j : ℕ) → length x ≤ j → get_or l' j 0 ≡ get_or l j 0) → l' ≡ front x l
unfolding front
front_by x l l' h n a b =
    let q : length l' ≡ length (x ++ drop (length x) l) = omega (arith, n, length-append x (drop (length x) l), length-drop (length x) l) in
    ext_get_or 0 l' (x ++ drop (length x) l) q (λ j g. elim (dec_le (suc j) (length x)) [
      | yes y ↦ a j y ∙ sym (get_or-append x (drop (length x) l) 0 j y)
      | no y ↦
          let z : j ≡ length x + (j - length x) = omega arith in
          b j (omega arith) ∙ sym (ap (λ i. get_or (x ++ drop (length x) l) i 0) z ∙ get_or-append-add x (drop (length x) l) (j - length x) 0 ∙ get_or-drop (length x) l (j - length x) 0 ∙ ap (λ i. get_or l i 0) (sym z))
    ])

-- the set bits before a level: each leads to a record, of a level to this one, but for the first
level_ones : (m : ℕ) (s : KeySet) (d : ℕ) → d < m → inhabited m s ≡ true → length (edges_before (d + 1) m s) ≡ 2 * (1 + rank (edges m s) (length (edges_before d m s)))
level_ones m s d h i =
    let n : d + 1 ≡ suc d = omega arith in
    rw (n, length_edges_before (suc d) m s h, length_edges_before d m s (omega arith)) (omega (arith, rank_level d m s (omega arith) i))

-- the last level ends with the edges
pub level_last : (e : Entry) (m b : ℕ) → m ≡ e.width → b ≡ edge_count e → b ≡ level_start e m
unfolding level_start edge_count edges_of edges
level_last e m b em eb = rw em eb

pub edge_few : (e : Entry) (k : ℕ) → Valid e → select (edges_of e) k ≤ max_edges
unfolding edge_count
edge_few e k v = omega (arith, select_le (edges_of e) k, v.few)

module _ (e : Entry) (v : Valid e) (i : ℕ) (lt : i < count e) where
  -- the member at i, and its path
  pub here : At e.width e.set i
  unfolding count keys_of
  here = at_place e.width e.set i lt

  pub member_is : get_or (keys_of e) i [] ≡ here.key
  unfolding keys_of
  member_is = here.here

  pub path_is : (j : ℕ) → j < e.width → get_or (path_of e (get_or (keys_of e) i [])) j 0 ≡ of_key e.width e.set here.key j
  unfolding path_of edges_of
  path_is j jl =
      let k : Key = here.key in
      let kk : key_of (of_key e.width e.set k) e.width ≡ k = key_of_lem e.width e.set k e.width (omega (arith, here.size)) ∙ take_all e.width k (omega (arith, here.size)) in
      let a = (offsets_are (edges e.width e.set) (of_key e.width e.set k) e.width (member_leads e.width e.set k here.size here.inside e.width (omega arith)).0).0 in
      ap (λ x. get_or (edge_offsets (edges e.width e.set) 0 x) j 0) (member_is ∙ sym kk) ∙ ap (λ x. get_or x j 0) a ∙ get_d_tabulate (of_key e.width e.set k) e.width j 0 jl

  pub path_size : length (path_of e (get_or (keys_of e) i [])) ≡ e.width
  unfolding path_of edges_of
  path_size = length_offsets (edges e.width e.set) 0 (get_or (keys_of e) i []) ∙ ap length member_is ∙ here.size

  -- a list that begins with the member's path has an offset for each level
  pub path_long : (os : List ℕ) → e.width ≤ length (front (path_of e (get_or (keys_of e) i [])) os)
  unfolding front
  path_long os = omega (arith, path_size, length-append (path_of e (get_or (keys_of e) i [])) (drop (length (path_of e (get_or (keys_of e) i []))) os))

  -- and its key is the member
  pub key_back : (os : List ℕ) → key_of_path (front (path_of e (get_or (keys_of e) i [])) os) e.width ≡ get_or (keys_of e) i []
  unfolding key_of_path key_of front
  key_back os =
      let x : List ℕ = path_of e (get_or (keys_of e) i []) in
      let k : Key = here.key in
      tabulate_ext (λ (j : ℕ). odd (get_or (x ++ drop (length x) os) j 0)) (λ (j : ℕ). odd (of_key e.width e.set k j)) e.width
      (λ j y. ap odd (get_or-append x (drop (length x) os) 0 j (omega (arith, path_size)) ∙ path_is j y))
      ∙ key_of_lem e.width e.set k e.width (omega (arith, here.size)) ∙ take_all e.width k (omega (arith, here.size)) ∙ sym member_is

  -- the record that would follow the last level
  leaf : (b : ℕ) → b ≡ edge_count e → b / 2 + i ≡ record_index (take e.width here.key) e.width e.set
  unfolding record_index edge_count edges_of edges
  leaf b eb =
      rw (take_all e.width here.key (omega (arith, here.size)), here.size, here.order)
      (omega (arith, eb, length_edges_before e.width e.width e.set (omega arith)))

  -- a level up
  module _ (d r : ℕ) (dm : d < e.width) (er : r ≡ record_index (take (d + 1) here.key) e.width e.set) where
    leads : Leading (edges e.width e.set) (suc d) (of_key e.width e.set here.key)
        × (record_at (edges e.width e.set) (of_key e.width e.set here.key) (suc d) ≡ record_index (take (suc d) here.key) e.width e.set)
    leads = member_leads e.width e.set here.key here.size here.inside (suc d) dm

    r_is : r ≡ suc (rank (edges_of e) (of_key e.width e.set here.key d))
    unfolding record_at edges_of
    r_is =
        er ∙ ap (λ x. record_index (take x here.key) e.width e.set) (sym (up d)) ∙ sym leads.1
        ∙ rank_set (edges e.width e.set) (of_key e.width e.set here.key d) leads.0.1.1

    up_in : (0 < r) × (r - 1 < ones (edges_of e)) × (r ≤ edge_count e)
    unfolding edges_of edge_count
    up_in =
        let z = ones_less (edges e.width e.set) (of_key e.width e.set here.key d) leads.0.1.1 in
        let y = ones_le (edges e.width e.set) in
        (omega (arith, r_is), omega (arith, r_is, z), omega (arith, r_is, z, y))

    up_edge : select (edges_of e) (r - 1) ≡ of_key e.width e.set here.key d
    unfolding edges_of
    up_edge =
        let z : r - 1 ≡ rank (edges e.width e.set) (of_key e.width e.set here.key d) = omega (arith, r_is) in
        ap (select (edges e.width e.set)) z ∙ select_at (edges e.width e.set) (of_key e.width e.set here.key d) leads.0.1.1

    up_next : of_key e.width e.set here.key d / 2 ≡ record_index (take d here.key) e.width e.set
    unfolding of_key
    up_next = omega (arith, bit_le (get_or here.key d false))

    -- the level above, and the record's number on its own
    up_level : (level_start e (d + 1) / 2 ≤ r) × (rank (edges_of e) (level_start e d) + (r - level_start e (d + 1) / 2) ≡ r - 1)
    unfolding level_start edges_of record_index
    up_level =
        let m : ℕ = e.width in
        let s : KeySet = e.set in
        let k : length (take (d + 1) here.key) ≡ d + 1 = length-take-le (d + 1) here.key (omega (arith, here.size)) in
        let n : length (edges_before (d + 1) m s) ≡ 2 * records_before (d + 1) m s = length_edges_before (d + 1) m s (omega arith) in
        let f : r ≡ records_before (d + 1) m s + prefixes_before (take (d + 1) here.key) m s = er ∙ ap (λ x. records_before x m s + prefixes_before (take (d + 1) here.key) m s) k in
        let g = level_ones m s d dm (inhabited_some m s (omega (arith, up_in.1, ones_le (edges m s)))) in
        (omega (arith, n, f), omega (arith, n, f, g))

-- ---- Level by level: the path from level d on is in the list, and r is the record on level d
pub record UpTo (e : Entry) (i d r : ℕ) (os₀ os : List ℕ) : Type 0 where
  pub low : d ≤ e.width
  pub on : r ≡ record_index (take d (get_or (keys_of e) i [])) e.width e.set
  pub size : length os ≡ length os₀
  pub done : (j : ℕ) → d ≤ j → j < e.width → get_or os j 0 ≡ get_or (path_of e (get_or (keys_of e) i [])) j 0
  pub rest : (j : ℕ) → e.width ≤ j → get_or os j 0 ≡ get_or os₀ j 0

-- member i of an opened encoding, and room for its path
pub record Climb (l : Bytes) (i : ℕ) (os : List ℕ) : Type 0 where
  pub valid : Valid (entry_in l)
  pub few : i < count (entry_in l)
  pub long : (entry_in l).width ≤ length os

pub climb : {l : Bytes} {e : Encoding} {i : ℕ} {os : List ℕ} → Opens l e → i < e.count → e.width ≤ length os → Climb l i os
climb {l} {e} o h r = record { valid = opens_valid l e o; few = omega (arith, h, o.count); long = omega (arith, r, o.width) }

module _ (e : Entry) (v : Valid e) (i : ℕ) (lt : i < count e) (os₀ : List ℕ) (long : e.width ≤ length os₀) where
  pub up_start : (m b : ℕ) → m ≡ e.width → b ≡ edge_count e → (b / 2 + i ≤ edge_count e) × UpTo e i m (b / 2 + i) os₀ os₀
  up_start m b em eb =
      let z : e.width ≡ (e.width - 1) + 1 = omega (arith, v.positive) in
      let f = leaf e v i lt b eb in (
        (up_in e v i lt (e.width - 1) (b / 2 + i) (omega (arith, v.positive)) (rw (← z) f)).2,
        record { low = omega arith; on = rw (em, member_is e v i lt) f; size = refl; done = λ j x y. absurd (omega arith); rest = λ j x. refl },
      )

  module _ (d r : ℕ) (os : List ℕ) (u : UpTo e i d r os₀ os) (pos : 0 < d) where
    er : r ≡ record_index (take (d - 1 + 1) (here e v i lt).key) e.width e.set
    er = let z : d - 1 + 1 ≡ d = omega arith in rw (z, ← (member_is e v i lt)) u.on

    dm : d - 1 < e.width
    dm = omega (arith, u.low)

    pub turn_in : (0 < r) × (r - 1 < ones (edges_of e)) × (r ≤ edge_count e)
    turn_in = up_in e v i lt (d - 1) r dm er

    pub turn_level : (level_start e d / 2 ≤ r) × (rank (edges_of e) (level_start e (d - 1)) + (r - level_start e d / 2) ≡ r - 1)
    turn_level = let z : d - 1 + 1 ≡ d = omega arith in rw z at (up_level e v i lt (d - 1) r dm er)

    pub turn_next : (o : ℕ) → o ≡ select (edges_of e) (r - 1) → UpTo e i (d - 1) (o / 2) os₀ (set os (d - 1) o)
    turn_next o q =
        let p : o ≡ of_key e.width e.set (here e v i lt).key (d - 1) = q ∙ up_edge e v i lt (d - 1) r dm er in
        record {
          low = omega (arith, u.low);
          on = rw (p, member_is e v i lt) (up_next e v i lt (d - 1) r dm er);
          size = length-set os (d - 1) o ∙ u.size;
          done = λ j x y. elim (dec_le d j) [
            | yes g ↦ get_or-set_other os (d - 1) j o 0 (λ z. omega arith) ∙ u.done j g y
            | no g ↦
                let z : j ≡ d - 1 = omega arith in
                ap (λ x. get_or (set os (d - 1) o) x 0) z ∙ get_or-set_same os (d - 1) o 0 (omega (arith, u.size, long, u.low)) ∙ p
                ∙ ap (of_key e.width e.set (here e v i lt).key) (sym z) ∙ sym (path_is e v i lt j y)
          ];
          rest = λ j x. get_or-set_other os (d - 1) j o 0 (λ z. omega (arith, dm)) ∙ u.rest j x;
        }

  pub up_end : (d r : ℕ) (os : List ℕ) → UpTo e i d r os₀ os → d ≤ 0 → os ≡ front (path_of e (get_or (keys_of e) i [])) os₀
  up_end d r os u z =
      let n = path_size e v i lt in
      front_by (path_of e (get_or (keys_of e) i [])) os₀ os (omega (arith, n)) u.size
      (λ j x. u.done j (omega arith) (omega (arith, n))) (λ j x. u.rest j (omega (arith, n)))
