-- A merge marked by each of its members' flags gives the three parts.
use mathlib.Core.Path.{◌≡◌, refl, sym, ap, ◌∙◌}
use Prim.Native.Nat.{ℕ, ◌+◌, ◌*◌, ◌/◌, ◌≤◌, ◌<◌}
use mathlib.Core.Bool.{Bool, true, false, ◌&&◌, ◌||◌, not}
use mathlib.Core.List.{List}
use native.Mathlib.Omega.{arith}
use lib.ListN.{length}
use lib.Dec.{eqb}
use Rattle.loes.specs.Limits.{max_edges}
use Rattle.loes.specs.Bytes.{Bytes, bit, pack_bits}
use Rattle.loes.specs.Keys.{Key, KeySet, those, either, without, in_both}
use Rattle.loes.specs.Edges.{record_bits}
use Rattle.loes.specs.Entry.{Entry, edges_of, edge_count, with_set}
use Rattle.loes.specs.Read.{entry_along}
use Rattle.loes.specs.Held.{entry_held, Holds}
use Rattle.loes.specs.Model.{union_entry, difference_entry, both_entry}
use Rattle.loes.proofs.Lists.{length_bits, length_those}
use Rattle.loes.proofs.Bits.{length_bits_in}
use Rattle.build.proofs.Shape.{held_bits}
use Rattle.records.specs.Records.{has_edge, records_to, is_flag, Packed}
use Rattle.records.proofs.Codes.{length_records}
use Rattle.merge.specs.Union.{flag_of, Merged}
use Rattle.merge.proofs.Merging.{tree_levels, over_levels, edges_levels}
use Rattle.restrict.specs.Restriction.{Marks}
use Rattle.restrict.proofs.Subsets.{part_edges}
use Rattle.divide.specs.Division.{MarksFit, DivideRoom}
use Rattle.divide.proofs.Apart.{fits_less}

-- ---- The flags of the parts
second_only : (s t : KeySet) (k : Key) → (either s t k && is_flag 2 (flag_of s t k)) ≡ without t s k
unfolding either is_flag flag_of without
second_only s t k = go (s k) (t k)
  where
    go : (a b : Bool) → ((a || b) && eqb (bit a + bit b * 2) 2) ≡ (b && not a)
    go true true = refl
    go true false = refl
    go false true = refl
    go false false = refl

in_both_lem : (s t : KeySet) (k : Key) → (either s t k && is_flag 3 (flag_of s t k)) ≡ in_both s t k
unfolding either is_flag flag_of in_both
in_both_lem s t k = go (s k) (t k)
  where
    go : (a b : Bool) → ((a || b) && eqb (bit a + bit b * 2) 3) ≡ (a && b)
    go true true = refl
    go true false = refl
    go false true = refl
    go false false = refl

-- ---- Room
-- a union has no more edges than both
union_most : (e f : Entry) → e.width ≡ f.width → edge_count (union_entry e f) ≤ edge_count e + edge_count f
unfolding edge_count edges_of with_set
union_most e f h =
    let m : ℕ = e.width in
    let s : KeySet = e.set in
    let t : KeySet = f.set in
    rw (← h, edges_levels m (either s t), edges_levels m s, edges_levels m t, length_bits (tree_levels m 0 m (either s t)), length_bits (tree_levels m 0 m s), length_bits (tree_levels m 0 m t))
    (omega (arith, (over_levels m 0 m s t (omega arith)).most))

-- the marks that are left fit where all records would
pub moved_fit : {r : ℕ} {z : Bytes} (u : Bytes) → MarksFit r z → r < 4 * length u → (r ≤ 4 * length z) × (r ≤ 4 * max_edges) × (length (those has_edge (records_to z r)) < 4 * length u)
moved_fit {r} {z} u m h = (omega (arith, m.room), omega (arith, m.room, m.small), omega (arith, length_those has_edge (records_to z r), length_records z r))

-- the same edges, in place of bytes of the same length
pub packed_as : {l k : List Bool} {o u p : Bytes} {b : ℕ} → l ≡ k → length o ≡ length u → Packed l o p b → Packed k u p b
packed_as g h w = record { count = w.count ∙ ap length g; bytes = w.bytes ∙ ap pack_bits g; size = w.size ∙ h }

-- ---- Two sets merged
module _ {m k x y : ℕ} {a c : Bytes} (em : m ≡ k) (ha : Holds m x a) (hc : Holds k y c) {q p : Bytes} {b n : ℕ} (v : Merged (entry_held m x a) (entry_held k y c) q p b n) where
  pub merged_most : b ≤ x + y
  unfolding edge_count
  merged_most =
      let e : Entry = entry_held m x a in
      let f : Entry = entry_held k y c in
      let z : edge_count (union_entry e f) ≡ b = ap length (sym v.edges) ∙ length_bits_in p b in
      let w : e.width ≡ f.width = unfold entry_held entry_along in em in
      omega (arith, z, held_bits m x a ha, held_bits k y c hc, union_most e f w)

  -- room for the union's marks
  pub union_fits : {z u : Bytes} → MarksFit ((x + y) / 2) z → length u ≡ length z → MarksFit (b / 2) u
  union_fits w e = fits_less w e (omega (arith, merged_most))

  -- in each of the three rooms
  pub all_fit : {o : Bytes} {s t u s' t' u' : Bytes} → DivideRoom x y o s t u → length s' ≡ length s → length t' ≡ length t → length u' ≡ length u → MarksFit (b / 2) s' × MarksFit (b / 2) t' × MarksFit (b / 2) u'
  all_fit d i j l = (union_fits d.both i, union_fits d.only_first j, union_fits d.only_second l)

-- ---- The edges of the parts
module _ {e f : Entry} {q p z : Bytes} {b n : ℕ} (v : Merged e f q p b n) where
  pub both_edges : Marks 3 p (b / 2) n z → record_bits (those has_edge (records_to z (b / 2))) ≡ edges_of (both_entry e f)
  unfolding edges_of with_set
  both_edges = part_edges v 3 (in_both e.set f.set) (in_both_lem e.set f.set)

  pub second_edges : e.width ≡ f.width → Marks 2 p (b / 2) n z → record_bits (those has_edge (records_to z (b / 2))) ≡ edges_of (difference_entry f e)
  unfolding edges_of with_set
  second_edges w = rw (← w) (part_edges v 2 (without f.set e.set) (second_only e.set f.set))
