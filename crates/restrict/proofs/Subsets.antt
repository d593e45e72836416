-- What marking and collecting leave: the edges of the subset that the flags name.
use mathlib.Core.Path.{◌≡◌, refl, sym, ap, ◌∙◌}
use Prim.Native.Nat.{ℕ, zero, suc, ◌+◌, ◌*◌, ◌/◌, ◌≤◌, ◌<◌}
use mathlib.Core.Bool.{Bool, true, false, ◌&&◌, ◌||◌, not}
use mathlib.Core.List.{List, [], ◌∷◌, map}
use native.Mathlib.Omega.{arith}
use lib.ListN.{length, get_or}
use lib.Dec.{ltb, eqb}
use Rattle.loes.specs.Bytes.{Bytes, bit, bit_at, bits_in, tabulate}
use Rattle.loes.specs.Keys.{Key, KeySet, members, those, smaller, either, without}
use Rattle.loes.specs.Edges.{Record, record_bits, ones, edges}
use Rattle.loes.specs.Prefixes.{inhabited, prefix_count, prefixes_before, records_before}
use Rattle.loes.specs.Entry.{Entry, keys_of, count, edges_of, edge_count, with_set}
use Rattle.loes.specs.Read.{entry_along}
use Rattle.loes.specs.Held.{entry_held, Holds}
use Rattle.loes.specs.Model.{union_entry, difference_entry}
use Rattle.loes.proofs.Lists.{bits_append, length_bits, ones_append}
use Rattle.loes.proofs.Tree.{length_members, before_smaller, members_at, index_lt}
use Rattle.loes.proofs.Navigation.{length_edges_before, ones_edges_before}
use Rattle.loes.proofs.Bytes.{get_d_tabulate, length_tabulate}
use Rattle.loes.proofs.Bits.{length_bits_in, tabulate_ext}
use Rattle.loes.proofs.Extensional.{edges_ext}
use Rattle.loes.proofs.Splits.{difference_fewer}
use Rattle.loes.proofs.Forest.{NoEmpty}
use Rattle.records.specs.Records.{empty_record, has_edge, children, children_before, record_at, records_to, flag_of_record, flag_at, flags_from, is_flag, Packed}
use Rattle.merge.specs.Union.{flag_of, Merged}
use Rattle.restrict.specs.Restriction.{flag_mask, Entries, Marks, Marked, Subtracts}
use Rattle.records.proofs.Codes.{records_more, length_records}
use Rattle.merge.proofs.Flags.{flags_count, flag_of_lem}
use Rattle.merge.proofs.Merging.{tree_levels, edges_levels}
use Rattle.merge.proofs.Held.{RecordsHeld, held_length, some_records, edges_records}
use Rattle.restrict.proofs.Restricting.{within, edge_children, no_empty_levels, restrict_edges, mask_members}

-- the keys whose index, the number of smaller keys, a mask takes
unfoldable restricted : (ℕ → Bool) → Entry → Entry
restricted f e = with_set e (λ (k : Key). e.set k && f (smaller k (keys_of e)))

-- ---- Every entry but the first is led to by an edge
ones_one : (r : Record) → ones (record_bits (r ∷ [])) ≡ children r
unfolding ones record_bits children
ones_one r = go r.on_zero r.on_one
  where
    go : (a b : Bool) → ones (a ∷ b ∷ []) ≡ bit a + bit b
    go true true = refl
    go true false = refl
    go false true = refl
    go false false = refl

children_ones : (l : Bytes) (r : ℕ) → children_before l r ≡ ones (record_bits (records_to l r))
unfolding children_before
children_ones l zero = unfold records_to tabulate record_bits ones in refl
children_ones l (suc r) =
    rw (children_ones l r, records_more l r, bits_append (records_to l r) (record_at l r ∷ []), ones_append (record_bits (records_to l r)) (record_bits (record_at l r ∷ [])), ones_one (record_at l r))

full_at : (l : List Record) (k : ℕ) → NoEmpty l → k < length l → 1 ≤ children (get_or l k empty_record)
full_at [] k c h = absurd (omega arith)
full_at (x ∷ l) zero c h = edge_children x (unfold has_edge in c.0)
full_at (x ∷ l) (suc k) c h = full_at l k c.1 (omega arith)

held_entries : {m : ℕ} {s : KeySet} {l : Bytes} {r : ℕ} → 0 < m → RecordsHeld m s l r → (n : ℕ) → n ≡ length (members m s) → Entries l r n
unfolding edges records_before prefix_count records_to
held_entries {m} {s} {l} {r} p h n e =
    let k : children_before l r ≡ ones (edges m s) = children_ones l r ∙ ap ones (ap record_bits h.records ∙ sym (edges_levels m s)) in
    let b : 2 * r ≡ length (edges m s) = sym (ap length (edges_levels m s) ∙ length_bits (tree_levels m 0 m s) ∙ ap (λ x. 2 * x) (sym (held_length h))) in
    let c : bit (ltb 0 r) ≡ bit (inhabited m s) = ap bit (some_records m p h r (λ z. z) (λ z. z)) in
    record {
      total = omega (arith, k, b, c, e, length_members m s, length_edges_before m m s (omega arith), ones_edges_before m m s (omega arith));
      full = λ i g.
          let f : get_or (records_to l r) i empty_record ≡ record_at l i = get_d_tabulate (record_at l) r i empty_record g in
          rw f at (full_at (records_to l r) i (rw h.records (no_empty_levels m 0 m s)) (rw (length_records l r) g));
    }

-- ---- What is left is the subset's edges
marked_edges : (e : Entry) {w : ℕ} {q p : Bytes} {r n : ℕ} → RecordsHeld e.width e.set q r → n ≡ count e → Marks w q r n p
    → record_bits (those has_edge (records_to p r)) ≡ edges_of (restricted (flag_mask w q r) e)
unfolding edges_of restricted with_set keys_of
marked_edges e {w} {q} {p} {r} {n} h c v =
    let f : Key → Bool = λ k. flag_mask w q r (smaller k (keys_of e)) in
    let k : tabulate (flag_mask w q r) n ≡ map f (keys_of e) = rw c (sym (mask_members e (flag_mask w q r))) in
    rw (v.out, h.records, k) (restrict_edges e.width e.set f)
    ∙ edges_ext e.width (within e.set f) (restricted (flag_mask w q r) e).set (λ j g. unfold within in refl)

-- ---- A merge's flags and edges
module _ {e f : Entry} {q p : Bytes} {b n : ℕ} (v : Merged e f q p b n) where
  merged_even : 2 * (b / 2) ≡ b
  unfolding edges_of with_set
  merged_even =
      let s : KeySet = either e.set f.set in
      let z : b ≡ 2 * length (tree_levels e.width 0 e.width s) = sym (length_bits_in p b) ∙ ap length (v.edges ∙ edges_levels e.width s) ∙ length_bits (tree_levels e.width 0 e.width s) in
      omega arith

  merged_held : RecordsHeld e.width (either e.set f.set) p (b / 2)
  unfolding edges_of with_set
  merged_held = record { records = edges_records e.width (either e.set f.set) p (b / 2) (rw merged_even v.edges); fits = omega (arith, v.flags.fits) }

  merged_entries : 0 < e.width → Entries p (b / 2) n
  unfolding count keys_of with_set
  merged_entries h = held_entries h merged_held n (flags_count v.flags)

  -- a member's flag is the one at its index
  flag_at_lem : (k : Key) → length k ≡ e.width → either e.set f.set k ≡ true → flag_at p (b / 2 + smaller k (keys_of (union_entry e f))) ≡ flag_of e.set f.set k
  unfolding count keys_of with_set
  flag_at_lem k l h =
      let m : ℕ = e.width in
      let s : KeySet = either e.set f.set in
      let i : ℕ = smaller k (members m s) in
      let a : i ≡ prefixes_before k m s = before_smaller k m s l in
      let c : i < n = omega (arith, flags_count v.flags, a, index_lt k m s l h) in
      flag_of_lem v.flags i c ∙ ap (flag_of e.set f.set) (ap (λ j. get_or (members m s) j []) a ∙ members_at k m s l h)

  -- the members whose flag is w
  flagged_set : (w : ℕ) (k : Key) → length k ≡ e.width
      → (restricted (flag_mask w p (b / 2)) (union_entry e f)).set k ≡ (either e.set f.set k && is_flag w (flag_of e.set f.set k))
  unfolding restricted with_set flag_mask
  flagged_set w k l = go (either e.set f.set k) refl
    where
      go : (c : Bool) → either e.set f.set k ≡ c
          → (c && is_flag w (flag_at p (b / 2 + smaller k (keys_of (union_entry e f))))) ≡ (c && is_flag w (flag_of e.set f.set k))
      go true h = ap (is_flag w) (flag_at_lem k l h)
      go false h = refl

  -- marked by flag w: the edges of those keys of the union that a set tells by it
  pub part_edges : {z : Bytes} (w : ℕ) (s : KeySet) → ((k : Key) → (either e.set f.set k && is_flag w (flag_of e.set f.set k)) ≡ s k) → Marks w p (b / 2) n z
      → record_bits (those has_edge (records_to z (b / 2))) ≡ edges e.width s
  unfolding edges_of restricted with_set
  part_edges w s h c =
      marked_edges (union_entry e f) merged_held (flags_count v.flags) c
      ∙ edges_ext e.width (restricted (flag_mask w p (b / 2)) (union_entry e f)).set s (λ k l. flagged_set w k l ∙ h k)

-- 1: in the first only
pub first_only : (s t : KeySet) (k : Key) → (either s t k && is_flag 1 (flag_of s t k)) ≡ without s t k
unfolding either is_flag flag_of without
first_only s t k = go (s k) (t k)
  where
    go : (a b : Bool) → ((a || b) && eqb (bit a + bit b * 2) 1) ≡ (a && not b)
    go true true = refl
    go true false = refl
    go false true = refl
    go false false = refl

pub subtracted : {e f : Entry} {q p z : Bytes} {b n : ℕ} → Merged e f q p b n → Marks 1 p (b / 2) n z → record_bits (those has_edge (records_to z (b / 2))) ≡ edges_of (difference_entry e f)
unfolding edges_of with_set
subtracted {e} {f} v w = part_edges v 1 (without e.set f.set) (first_only e.set f.set) w

-- the difference, of a first set in x bits
pub subtract_entries : {m x : ℕ} {a : Bytes} {f : Entry} {q p : Bytes} {b n : ℕ} → Holds m x a → Merged (entry_held m x a) f q p b n → Entries p (b / 2) n
unfolding entry_held entry_along
subtract_entries h v = merged_entries v h.positive

module _ {m x : ℕ} {a : Bytes} {f : Entry} {q p : Bytes} {b n : ℕ} (h : Holds m x a) (v : Merged (entry_held m x a) f q p b n) where
  first_count : edge_count (entry_held m x a) ≡ x
  unfolding edge_count bits_in
  first_count = ap length h.same ∙ length_tabulate (bit_at a) x

  pub subtracted_count : {z : Bytes} → Marks 1 p (b / 2) n z → 2 * length (those has_edge (records_to z (b / 2))) ≤ x
  unfolding edge_count
  subtracted_count {z} w =
      let l : List Record = those has_edge (records_to z (b / 2)) in
      omega (arith, length_bits l, ap length (subtracted v w), difference_fewer (entry_held m x a) f, first_count)

  pub subtract_done : {z o y : Bytes} {k : ℕ} → Marked 1 p (b / 2) n z → Packed (record_bits (those has_edge (records_to z (b / 2)))) o y k → Subtracts (entry_held m x a) f q o z y k (b / 2) n
  unfolding flags_from flag_at
  subtract_done {z} w c =
      record {
        edges = rw (subtracted v w.marks) at c;
        flags =
            record {
              each = tabulate_ext (λ j. flag_at z (b / 2 + j)) (λ j. flag_at p (b / 2 + j)) n (λ j h. ap flag_of_record (w.other (b / 2 + j) (omega arith))) ∙ v.flags.each;
              fits = omega (arith, w.size, v.flags.fits);
            };
        queue = w.size ∙ v.size;
      }
