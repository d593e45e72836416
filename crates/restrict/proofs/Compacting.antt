-- Records with an edge moved together.
use mathlib.Core.Path.{◌≡◌, refl, sym, ap, ◌∙◌}
use Prim.Native.Nat.{ℕ, suc, ◌+◌, ◌*◌, ◌/◌, ◌%◌, ◌≤◌}
use mathlib.Core.List.{[], ◌∷◌, ◌++◌, append_assoc}
use native.Mathlib.Omega.{arith}
use native.Mathlib.Decide.{le_ind}
use lib.ListN.{length, get_or, length-append}
use Rattle.loes.specs.Bytes.{Bytes, tabulate}
use Rattle.loes.specs.Keys.{those}
use Rattle.loes.proofs.Lists.{those_append, length_those}
use Rattle.records.specs.Records.{has_edge, record_of_code, record_at, records_to, records_at, Pushed}
use Rattle.records.specs.Numbers.{records_of}
use Rattle.restrict.specs.Restriction.{Compacted, BlockCompacted}
use Rattle.records.proofs.Codes.{records_more, length_records}
use Rattle.records.proofs.Numbers.{records_add, byte_run, bytes_more}

-- ---- None, one record more, and sixteen more
pub compact_none : {q o : Bytes} → Compacted q 0 o o 0
unfolding records_to tabulate those
compact_none = record { out = refl; size = refl }

those_more : (q : Bytes) (i : ℕ) → those has_edge (records_to q (suc i)) ≡ those has_edge (records_to q i) ++ those has_edge (record_at q i ∷ [])
those_more q i = rw (records_more q i) (those_append has_edge (records_to q i) (record_at q i ∷ []))

pub compact_more : {q o p u : Bytes} {i k x l : ℕ} → Compacted q i o p k → record_of_code x ≡ record_at q i → Pushed k x p u l → Compacted q (i + 1) o u l
compact_more {q} {i} v e w =
    let z : i + 1 ≡ suc i = omega arith in
    record { out = rw z (w.records ∙ rw (v.out, e) (sym (those_more q i))); size = w.size ∙ v.size }

pub compact_block : {q o p u : Bytes} {i k l : ℕ} → Compacted q i o p k → i % 4 ≡ 0 → BlockCompacted q (i / 4) p k u l → Compacted q (i + 16) o u l
compact_block {q} {i} v h w =
    let z : 4 * (i / 4) ≡ i = omega arith in
    let e : records_to q (i + 16) ≡ records_to q i ++ records_at q (4 * (i / 4)) 16 = records_add q i 16 ∙ ap (λ n. records_to q i ++ records_at q n 16) (sym z) in
    record {
      out = w.records ∙ rw v.out (sym (ap (those has_edge) e ∙ those_append has_edge (records_to q i) (records_at q (4 * (i / 4)) 16)));
      size = w.size ∙ v.size;
    }

-- ---- How many there are
pub compact_count : {q o p : Bytes} {i k : ℕ} → Compacted q i o p k → k ≡ length (those has_edge (records_to q i))
compact_count {p} {k} v = sym (length_records p k) ∙ ap length v.out

pub compact_less : {q o p : Bytes} {i k : ℕ} → Compacted q i o p k → k ≤ i
compact_less {q} {i} v = omega (arith, compact_count v, length_those has_edge (records_to q i), length_records q i)

pub those_mono : (q : Bytes) (i r : ℕ) → i ≤ r → length (those has_edge (records_to q i)) ≤ length (those has_edge (records_to q r))
those_mono q i r h =
    le_ind (λ (j : ℕ). length (those has_edge (records_to q i)) ≤ length (those has_edge (records_to q j))) (omega arith)
    (λ j l e. rw (those_more q j, length-append (those has_edge (records_to q j)) (those has_edge (record_at q j ∷ []))) (omega arith)) r h

-- ---- The records of four bytes, two and two
pub four_bytes : (q : Bytes) (j : ℕ) → records_at q (4 * j) 16 ≡ (records_of 4 (get_or q j 0) ++ records_of 4 (get_or q (j + 1) 0)) ++ (records_of 4 (get_or q (j + 2) 0) ++ records_of 4 (get_or q (j + 3) 0))
four_bytes q j =
    bytes_more q j 3 ∙ ap (λ t. t ++ records_of 4 (get_or q (j + 3) 0)) (bytes_more q j 2 ∙ ap (λ t. t ++ records_of 4 (get_or q (j + 2) 0)) (bytes_more q j 1 ∙ ap (λ t. t ++ records_of 4 (get_or q (j + 1) 0)) (byte_run q j)))
    ∙ append_assoc (records_of 4 (get_or q j 0) ++ records_of 4 (get_or q (j + 1) 0)) (records_of 4 (get_or q (j + 2) 0)) (records_of 4 (get_or q (j + 3) 0))
