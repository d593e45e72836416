-- A batch and the model: its tests, and its entry
use mathlib.Core.Path.{◌≡◌, refl, ap, ◌∙◌}
use Prim.Native.Nat.{ℕ, zero, suc, ◌*◌, ◌/◌, ◌%◌, ◌≤◌, ◌<◌}
use mathlib.Core.Bool.{or-true}
use mathlib.Core.List.{List, [], ◌∷◌, ◌++◌, flatten}
use mathlib.Core.Option.{none, some}
use mathlib.Core.Logic.{◌⊎◌, inl, inr}
use native.Mathlib.Omega.{arith}
use native.Mathlib.Nat.{div-add-mod}
use lib.ListN.{length, take, drop}
use lib.Dec.{ltb}
use borrow.Author.Tests.{eq-eqb, ne_eqb}
use Rattle.loes.specs.Limits.{max_width, max_edges}
use Rattle.loes.specs.Bytes.{Bytes, tabulate}
use Rattle.loes.specs.Keys.{Key, less, set_of}
use Rattle.loes.specs.Edges.{edges}
use Rattle.loes.specs.Prefixes.{prefix_count, records_before}
use Rattle.loes.specs.Entry.{key_bytes, keys_of, count, edges_of, edge_count, wrong_width, too_many_edges}
use Rattle.loes.specs.Refusals.{bad_width, too_large, ragged_batch, unused_bit_set, descending, test, first_of}
use Rattle.loes.specs.Model.{key_in, unused_set, batch_keys, rising_tests, pack_tests, batch_entry}
use Rattle.loes.proofs.Tests.{lt_yes, lt_no, no_lt, yes_eq, not_false, neither, none_append, none_test, none_first, some_first}
use Rattle.loes.proofs.Bits.{tabulate_ext, map_tabulate}
use Rattle.loes.proofs.Tree.{length_members}
use Rattle.loes.proofs.Navigation.{length_edges_before}
use Rattle.pack.specs.Rising.{set_below, Rising}
use Rattle.pack.specs.Batch.{key, previous, key_tests, tests_below}
use Rattle.pack.specs.Whole.{Whole}
use Rattle.pack.specs.Packing.{edge_tests}
use Rattle.pack.proofs.Places.{key_taken, unused_taken}
use Rattle.pack.proofs.KeyTests.{rising, below_suc}

-- ---- tests from the front, and from behind
unfoldable last_key : ℕ → Key → List Bytes → Key
last_key m p [] = p
last_key m p (x ∷ l) = last_key m (key_in m x) l

last_snoc : (m : ℕ) (p : Key) (l : List Bytes) (x : Bytes) → last_key m p (l ++ x ∷ []) ≡ key_in m x
unfolding last_key
last_snoc m p [] x = refl
last_snoc m p (y ∷ l) x = last_snoc m (key_in m y) l x

rising_snoc : (m : ℕ) (p : Key) (l : List Bytes) (x : Bytes)
    → rising_tests m p (l ++ x ∷ []) ≡ rising_tests m p l ++ test (unused_set m x) unused_bit_set ∷ test (less (key_in m x) (last_key m p l)) descending ∷ []
unfolding rising_tests last_key
rising_snoc m p [] x = refl
rising_snoc m p (y ∷ l) x = ap (λ z. test (unused_set m y) unused_bit_set ∷ test (less (key_in m y) p) descending ∷ z) (rising_snoc m (key_in m y) l x)

module _ (m : ℕ) (l : Bytes) where
  abbrev bytes_of : ℕ → Bytes
  bytes_of i = take (key_bytes m) (drop (key_bytes m * i) l)

  last_is : (n : ℕ) → last_key m [] (tabulate bytes_of n) ≡ previous (key m l) n
  unfolding tabulate previous
  last_is zero = unfold last_key in refl
  last_is (suc n) = last_snoc m [] (tabulate bytes_of n) (bytes_of n) ∙ key_taken m (drop (key_bytes m * n) l)

  rising_below : (n : ℕ) → rising_tests m [] (tabulate bytes_of n) ≡ tests_below m l n
  unfolding tabulate rising_tests
  rising_below zero = unfold tests_below tabulate flatten in refl
  rising_below (suc n) =
      rw (below_suc m l n, rising_snoc m [] (tabulate bytes_of n) (bytes_of n), rising_below n, last_is n, key_taken m (drop (key_bytes m * n) l), unused_taken m (drop (key_bytes m * n) l))
      (unfold key_tests in refl)

  abbrev pub keys : ℕ
  keys = length l / key_bytes m

  pub set_is : (batch_entry m l).set ≡ set_below (key m l) keys
  unfolding batch_entry batch_keys set_below
  set_is = ap set_of (map_tabulate (key_in m) bytes_of keys ∙ tabulate_ext _ (key m l) keys (λ i h. key_taken m (drop (key_bytes m * i) l)))

  pub edge_count_lem : edge_count (batch_entry m l) ≡ 2 * records_before m m (batch_entry m l).set
  unfolding edge_count edges_of edges batch_entry
  edge_count_lem = length_edges_before m m _ (omega arith)

  pub batch_members : count (batch_entry m l) ≡ prefix_count m m (set_below (key m l) keys)
  unfolding count keys_of batch_entry
  batch_members = length_members m (batch_entry m l).set ∙ ap (prefix_count m m) set_is

  pub bad_width_lem : (m ≡ 0) ⊎ (max_width < m) → first_of (edge_tests m l) ≡ some bad_width
  unfolding edge_tests pack_tests wrong_width test first_of
  bad_width_lem (inl z) = rw z
  bad_width_lem (inr h) = rw (lt_yes max_width m h, or-true)

  module _ (positive : 0 < m) (narrow : m ≤ max_width) where
    pub ragged : (length l % key_bytes m ≡ 0 → ⊥) → first_of (edge_tests m l) ≡ some ragged_batch
    unfolding edge_tests pack_tests wrong_width test first_of
    ragged h = rw (lt_no m 1 positive, lt_no max_width m narrow, ne_eqb (length l % key_bytes m) 0 h)

    module _ (even : length l % key_bytes m ≡ 0) where
      pub batch_is : Whole m (key_bytes m) keys l
      batch_is = record { positive = positive; narrow = narrow; size = refl; whole = omega (arith, div-add-mod (length l) (key_bytes m)) }

      after_keys : first_of (edge_tests m l) ≡ first_of (tests_below m l keys ++ test (too_many_edges (edge_count (batch_entry m l))) too_large ∷ [])
      unfolding edge_tests pack_tests wrong_width test first_of batch_keys
      after_keys = rw (lt_no m 1 positive, lt_no max_width m narrow, eq-eqb (length l % key_bytes m) 0 even, rising_below keys)

      pub key_refused : (k : ℕ) → first_of (tests_below m l keys) ≡ some k → first_of (edge_tests m l) ≡ some k
      key_refused k e = after_keys ∙ some_first (tests_below m l keys) _ k e

      module _ (clean : first_of (tests_below m l keys) ≡ none) where
        pub too_large_lem : max_edges < edge_count (batch_entry m l) → first_of (edge_tests m l) ≡ some too_large
        unfolding too_many_edges test first_of
        too_large_lem h = after_keys ∙ none_first (tests_below m l keys) _ clean ∙ rw (lt_yes max_edges _ h)

        pub passes : edge_count (batch_entry m l) ≤ max_edges → first_of (edge_tests m l) ≡ none
        unfolding too_many_edges test first_of
        passes h = after_keys ∙ none_first (tests_below m l keys) _ clean ∙ rw (lt_no max_edges _ h)

-- ---- what an accepted batch has
pub record Clean (m : ℕ) (l : Bytes) : Type 0 where
  pub batch : Whole m (key_bytes m) (keys m l) l
  pub rises : Rising m (keys m l) (key m l)
  pub few : edge_count (batch_entry m l) ≤ max_edges
  pub even : length l % key_bytes m ≡ 0

pub clean : (m : ℕ) (l : Bytes) → first_of (edge_tests m l) ≡ none → Clean m l
unfolding edge_tests pack_tests wrong_width too_many_edges batch_keys
clean m l e =
    let a = none_append (pack_tests m l) (test (too_many_edges (edge_count (batch_entry m l))) too_large ∷ []) e in
    let w = none_test _ _ _ a.0 in
    let r = none_test _ _ _ w.1 in
    let z = neither (ltb m 1) (ltb max_width m) w.0 in
    let even : length l % key_bytes m ≡ 0 = yes_eq (length l % key_bytes m) 0 (not_false _ r.0) in
    record {
      batch = batch_is m l (no_lt m 1 z.0) (no_lt max_width m z.1) even;
      rises = rising m l (keys m l) (rw (rising_below m l (keys m l)) at r.1);
      few = no_lt max_edges _ (none_test _ _ _ a.1).0;
      even = even;
    }
