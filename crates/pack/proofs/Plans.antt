-- The plan of a batch, from the counts of its records
use mathlib.Core.Path.{◌≡◌, sym, ap, ap₂, ◌∙◌}
use Prim.Native.Nat.{ℕ, ◌*◌, ◌%◌, ◌≤◌, ◌<◌}
use mathlib.Core.List.{List, ◌++◌}
use Rattle.std.proofs.Math.ListN.{get_or-append}
use mathlib.Core.Option.{none, some}
use native.Mathlib.Omega.{arith}
use lib.ListN.{length, get_or, replicate}
use Rattle.loes.specs.Limits.{max_width}
use Rattle.loes.specs.Bytes.{Bytes, started, pack_bits}
use Rattle.loes.specs.Edges.{edges}
use Rattle.loes.specs.Prefixes.{prefix_count, records_before}
use Rattle.loes.specs.Entry.{key_bytes, edges_of, edge_count}
use Rattle.loes.specs.Refusals.{first_of}
use Rattle.loes.specs.Model.{batch_entry}
use Rattle.pack.specs.Rising.{set_below}
use Rattle.pack.specs.Marking.{sum_below, Starts}
use Rattle.pack.specs.declared.batch.Batch.{Batch}
use Rattle.pack.specs.Batch.{key, members, tests_below, RecordsCounted, Unmarked}
use Rattle.pack.specs.Packing.{edge_tests, Planned, Unfilled}
use Rattle.std.specs.Prelude.{Ok, Err}
use Rattle.loes.specs.Numbers.{number_of}
use Rattle.loes.specs.declared.refusal.Refusal.{Refusal}
use Rattle.pack.proofs.Sums.{sum_records}
use Rattle.pack.proofs.Turn.{counted_le}
use Rattle.pack.proofs.Places.{few_keys}
use Rattle.pack.proofs.KeyTests.{rising}
use Rattle.pack.proofs.Batches.{keys, set_is, edge_count_lem, batch_is, key_refused, too_large_lem, passes, Clean, clean}

-- the keys of these bytes
pub members_are : (batch : Batch) (m : ℕ) (l : Bytes) → batch.width ≡ m → batch.count ≡ keys m l → batch.bytes.now ≡ l → members batch ≡ (batch_entry m l).set
members_are batch m l w n e = rw (w, n, e) (sym (set_is m l))

module _ (batch : Batch) (m : ℕ) (l : Bytes) (w : batch.width ≡ m) (n : batch.count ≡ keys m l) (e : batch.bytes.now ≡ l) (even : length l % key_bytes m ≡ 0) where
  positive : 0 < m
  positive = omega (arith, batch.whole.positive)

  narrow : m ≤ max_width
  narrow = omega (arith, batch.whole.narrow)

  pub plan_refused : (counts : List ℕ) (k : Refusal) → RecordsCounted batch counts (Err k) → first_of (edge_tests m l) ≡ some (number_of k)
  plan_refused counts k c = key_refused m l positive narrow even (number_of k) (rw (w, n, e) at c)

  module _ (counts : List ℕ) (u : Unit) (c : RecordsCounted batch counts (Ok u)) where
    clean_keys : first_of (tests_below m l (keys m l)) ≡ none
    clean_keys = rw (w, n, e) at c.0

    counted_is : (x : ℕ) → x < m → get_or counts x 0 ≡ prefix_count x m (set_below (key m l) (keys m l))
    counted_is x h = c.1 x (omega arith) ∙ rw (w, n, e)

    pub few_records : (x : ℕ) → x < m → get_or counts x 0 ≤ length l
    few_records x h =
        omega (
          arith,
          few_keys m (key_bytes m) (keys m l) l (batch_is m l positive narrow even),
          counted_le m (keys m l) (λ y. 0) (key m l) (rising m l (keys m l) clean_keys) (keys m l) counts (omega arith) (λ y q. omega (arith, counted_is y q)) x h,
        )

    sum_is : (d : ℕ) → d ≤ m → sum_below counts d ≡ records_before d m (batch_entry m l).set
    sum_is d h = rw (set_is m l) (sum_records m (set_below (key m l) (keys m l)) counts counted_is d h)

    pub plan_over : (starts : List ℕ) (k : Refusal) → Starts batch.width counts starts (Err k) → first_of (edge_tests m l) ≡ some (number_of k)
    plan_over starts k st = rw st.0 (too_large_lem m l positive narrow even clean_keys (omega (arith, st.1, ap (sum_below counts) w, sum_is m (omega arith), edge_count_lem m l)))

    -- with what stands behind the levels
    pub plan_ready : (starts rest : List ℕ) (r : ℕ) → length starts ≡ m → Starts batch.width counts starts (Ok r) → Planned m l (starts ++ rest) (Ok (2 * r))
    plan_ready starts rest r size st =
        let b : 2 * r ≡ edge_count (batch_entry m l) = omega (arith, st.1, ap (sum_below counts) w, sum_is m (omega arith), edge_count_lem m l) in (
          record {
            accepted = passes m l positive narrow even clean_keys (omega (arith, st.0));
            starts = λ x q. get_or-append starts rest 0 x (omega arith) ∙ st.2 x (omega arith) ∙ sum_is x (omega arith);
          },
          b,
        )

-- ---- filling
module _ (m : ℕ) (l : Bytes) (levels : List ℕ) (old : Bytes) (u : Unfilled m l levels old) where
  abbrev pub whole : Clean m l
  whole = clean m l u.ready.accepted

  module _ (batch : Batch) (w : batch.width ≡ m) (n : batch.count ≡ keys m l) (e : batch.bytes.now ≡ l) where
    pub unmarked : (zeros : Bytes) → zeros ≡ replicate (length old) 0 → Unmarked batch levels zeros
    unmarked zeros z =
        let set = members_are batch m l w n e in
        let most : records_before batch.width batch.width (members batch) ≡ records_before m m (batch_entry m l).set = ap₂ (λ a s. records_before a a s) w set in
        record {
          keys = record {
            rising = rw (w, n, e) whole.rises;
            long = omega (arith, u.long, whole.batch.narrow);
            starts = λ x h. u.ready.starts x (omega arith) ∙ sym (ap₂ (records_before x) w set);
            few = omega (arith, whole.few, edge_count_lem m l, most);
          };
          clear = z ∙ ap (λ x. replicate x 0) (u.room ∙ ap (started 8) (edge_count_lem m l ∙ ap (λ x. 2 * x) (sym most)));
        }

    pub filled : (new : Bytes) → new ≡ pack_bits (edges batch.width (members batch)) → new ≡ pack_bits (edges_of (batch_entry m l))
    unfolding edges_of batch_entry
    filled new q = q ∙ ap₂ (λ a s. pack_bits (edges a s)) w (members_are batch m l w n e)
