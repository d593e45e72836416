-- Levels on which each key has a record of its own, marked key after key
use mathlib.Core.Path.{◌≡◌, refl, sym, ap, ◌∙◌}
use Prim.Native.Nat.{ℕ, zero, suc, ◌+◌, ◌*◌, ◌≤◌, ◌<◌}
use mathlib.Core.Bool.{Bool, true, false, cond}
use mathlib.Core.List.{List, [], ◌++◌, append_assoc, append-nil}
use native.Mathlib.Omega.{arith}
use native.Mathlib.Decide.{dec_le, le_ind}
use lib.ListN.{length, drop, get_or, set, replicate, drop_of_length-le}
use lib.Seq.{drop-append-le}
use lib.Dec.{ltb}
use borrow.Author.Tests.{lt-ltb, le-ltb}
use Rattle.loes.specs.Bytes.{Bytes, started, pack_bits}
use Rattle.loes.specs.Keys.{Key, KeySet}
use Rattle.loes.specs.Edges.{record_bits, edges}
use Rattle.loes.specs.Prefixes.{prefix_count, records_before}
use Rattle.pack.specs.Rising.{first_new, set_below, Rising}
use Rattle.pack.specs.Marking.{max_records, set_bits, Gap}
use Rattle.pack.specs.Batch.{key, Markable, Apart, edges_from, row_offset, Row}
use Rattle.pack.specs.declared.batch.Batch.{Batch}
use Rattle.pack.proofs.Places.{bit_in}
use Rattle.pack.proofs.Grow.{insert, inhabited_none, below_zero, below_suc, in_below}
use Rattle.pack.proofs.Marked.{marked, marked_edges, length_edges, edges_ext, edges_all, edge_offset, edges_set, split_at, split_all}
use Rattle.pack.proofs.Pass.{edges_none, mark_start, new_le, offset_is}
use Rattle.pack.proofs.SetBits.{packed_set}
use Rattle.pack.proofs.Turn.{all_new, own_record, records_le}

-- ---- the levels from one on
records_grow : (d e m : ℕ) (s : KeySet) → d ≤ e → records_before d m s ≤ records_before e m s
unfolding records_before
records_grow d e m s h = le_ind {n = d} (λ (j : ℕ). records_before d m s ≤ records_before j m s) (omega arith) (λ j q ih. omega arith) e h

module _ (top m : ℕ) (f : ℕ → Key) (s : KeySet) (h : top ≤ m) where
  abbrev T : ℕ → KeySet
  T = split_at top (set_below f 0) s

  abbrev k : ℕ
  k = 2 * records_before top m s

  abbrev all : ℕ → List Bool
  all d = marked_edges d m s (λ (x : ℕ). s)

  before_top : marked_edges top m s T ≡ replicate k false ++ drop k (all top)
  before_top =
      let none : drop k (all top) ≡ [] = drop_of_length-le (all top) {i = k} (omega (arith, length_edges top m s (λ (x : ℕ). s) h)) in
      edges_ext top m s T (λ (x : ℕ). set_below f 0) (λ x l. rw (lt-ltb x top l)) ∙ edges_none top m s (set_below f 0) (inhabited_none m (set_below f 0) (λ j l. below_zero f j)) h
      ∙ rw none (sym (append-nil (replicate k false)))

  from_top : (d : ℕ) → top ≤ d → d ≤ m → marked_edges d m s T ≡ replicate k false ++ drop k (all d)
  unfolding marked_edges
  from_top d q = le_ind {n = top} (λ (j : ℕ). j ≤ m → marked_edges j m s T ≡ replicate k false ++ drop k (all j)) (λ l. before_top) (λ j q ih l.
      let n : k ≤ length (all j) = omega (arith, length_edges j m s (λ (x : ℕ). s) (omega arith), records_grow top j m s q) in
      rw (ih (omega arith), le-ltb j top q, drop-append-le k (all j) (record_bits (marked j m s s)) n) (append_assoc (replicate k false) (drop k (all j)) (record_bits (marked j m s s)))) d q

  pub from_is : marked_edges m m s T ≡ edges_from top m s
  unfolding edges_from edges
  from_is = from_top m h (omega arith) ∙ ap (λ x. replicate k false ++ drop k x) (edges_all m m s (omega arith))

-- ---- one level more
module _ (m n : ℕ) (f : ℕ → Key) (r : Rising m n f) where
  abbrev S : KeySet
  S = set_below f n

  -- of level e the first j keys are marked, of those behind it all
  abbrev row : ℕ → ℕ → ℕ → KeySet
  row e j x = cond (ltb x e) (set_below f 0) (cond (ltb x (suc e)) (set_below f j) S)

  row_step : (e j : ℕ) → e < m → j < n
      → (edge_offset e (f j) m S < length (marked_edges m m S (row e j))) × (marked_edges m m S (row e (suc j)) ≡ set (marked_edges m m S (row e j)) (edge_offset e (f j) m S) true)
  row_step e j l h =
      let other : (x : ℕ) → (x ≡ e → ⊥) → row e (suc j) x ≡ row e j x = λ x d.
      elim (dec_le (suc x) e) [
        | yes y ↦ rw (lt-ltb x e y)
        | no y ↦ let z : suc e ≤ x = omega (arith, d) in rw (le-ltb x e (omega arith), le-ltb x (suc e) z)
      ] in
      let this : row e (suc j) e ≡ insert (row e j e) (f j) = rw (le-ltb e e (omega arith), lt-ltb e (suc e) (omega arith)) (below_suc f j) in
      edges_set m e (f j) m S (row e j) (row e (suc j)) (r.wide j h) (in_below f j n h) l (omega arith) other this

  row_marked : (e : ℕ) (o : ℕ → ℕ) → e < m → ((i : ℕ) → i < n → o i ≡ edge_offset e (f i) m S) → (j : ℕ) → j ≤ n
      → set_bits o 0 j (pack_bits (marked_edges m m S (row e 0))) ≡ pack_bits (marked_edges m m S (row e j))
  unfolding set_bits
  row_marked e o l at zero h = refl
  row_marked e o l at (suc j) h =
      let z : 0 + j ≡ j = omega arith in
      let step = row_step e j l h in
      rw (row_marked e o l at j (omega arith), z, at j h, packed_set (marked_edges m m S (row e j)) (edge_offset e (f j) m S) step.0, step.1)

  row_first : (e : ℕ) → marked_edges m m S (split_at (suc e) (set_below f 0) S) ≡ marked_edges m m S (row e 0)
  row_first e = edges_ext m m S (split_at (suc e) (set_below f 0) S) (row e 0) (λ x l.
      elim (dec_le (suc x) e) [ yes y ↦ rw (lt-ltb x e y, lt-ltb x (suc e) (omega arith)) | no y ↦ rw (le-ltb x e (omega arith)) ])

  row_last : (e : ℕ) → marked_edges m m S (row e n) ≡ marked_edges m m S (split_at e (set_below f 0) S)
  row_last e = edges_ext m m S (row e n) (split_at e (set_below f 0) S) (λ x l.
      elim (dec_le (suc x) e) [
        | yes y ↦ rw (lt-ltb x e y)
        | no y ↦ elim (dec_le (suc x) (suc e)) [ yes z ↦ rw (le-ltb x e (omega arith), lt-ltb x (suc e) z) | no z ↦ rw (le-ltb x e (omega arith), le-ltb x (suc e) (omega arith)) ]
      ])

  pub level_marked : (e : ℕ) (o : ℕ → ℕ) (old new : Bytes) → e < m → ((i : ℕ) → i < n → o i ≡ edge_offset e (f i) m S)
      → old ≡ pack_bits (marked_edges m m S (split_at (suc e) (set_below f 0) S)) → new ≡ set_bits o 0 n old
      → new ≡ pack_bits (marked_edges m m S (split_at e (set_below f 0) S))
  level_marked e o old new l at a b =
      b ∙ ap (set_bits o 0 n) (a ∙ ap pack_bits (row_first e)) ∙ row_marked e o l at n (omega arith) ∙ ap pack_bits (row_last e)

-- ---- of a batch
module _ (batch : Batch) (cursors : List ℕ) (k : Markable batch cursors) where
  abbrev m : ℕ
  m = batch.width

  abbrev n : ℕ
  n = batch.count

  abbrev K : ℕ → Key
  K = key m batch.bytes.now

  abbrev whole : KeySet
  whole = set_below K n

  start_few : (e : ℕ) → e < m → records_before e m whole ≤ max_records
  start_few e h = omega (arith, k.few, records_le e m whole h)

  pub starts_few : (e : ℕ) → e < m → get_or cursors e 0 ≤ max_records
  starts_few e h = omega (arith, k.starts e h, start_few e h)

  pub gap_apart : (top : ℕ) → Gap m n cursors top → Apart m n top whole
  unfolding records_before
  gap_apart top g =
      record {
        most = g.most;
        each = λ h. omega (arith, (g.size h).1, k.starts top h, k.starts (suc top) (g.size h).0);
      }

  -- no level is: nothing is marked yet
  pub none_apart : Apart m n m whole
  none_apart = record { most = omega arith; each = λ h. absurd (omega arith) }

  pub none_marked : (edges : Bytes) → edges ≡ replicate (started 8 (2 * records_before m m whole)) 0 → edges ≡ pack_bits (edges_from m m whole)
  none_marked edges z = z ∙ sym (mark_start m whole K) ∙ ap pack_bits (sym (split_all m whole (set_below K 0) whole) ∙ from_is m m K whole (omega arith))

  module _ (top : ℕ) (a : Apart m n top whole) where
    pub new_top : (i : ℕ) → i < n → first_new K i ≤ suc top
    new_top i h = elim (dec_le (suc top) m) [
      | yes y ↦ omega (arith, all_new m n K k.rising top y (a.each y) i h)
      | no y ↦ omega (arith, new_le m n K k.rising i h)
    ]

    -- on a level from there on
    module _ (e : ℕ) (q : top ≤ e) (h : e < m) where
      own : (i : ℕ) → i ≤ n → prefix_count e m (set_below K i) ≡ i
      own = own_record m n K k.rising top e (all_new m n K k.rising top (omega arith) (a.each (omega arith))) q h

      pub row_there : (edges : Bytes) → length edges ≡ started 8 (2 * records_before m m whole) → Row batch n e (get_or cursors e 0) edges
      unfolding started
      row_there edges long =
          record {
            whole = omega arith;
            inside = h;
            fit = omega (arith, k.starts e h, records_le e m whole h, own n (omega arith), long);
            small = omega (arith, k.few, long);
          }

      pub row_offset_lem : (i : ℕ) → i < n → row_offset batch e (get_or cursors e 0) i ≡ edge_offset e (K i) m whole
      unfolding row_offset
      row_offset_lem i g = rw (bit_in batch i e h) (omega (arith, k.starts e h, offset_is m n K k.rising i e g h, own (suc i) g))
