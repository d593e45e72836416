-- The tests of a batch, key by key
use mathlib.Core.Path.{◌≡◌, refl, sym, ◌∙◌}
use Prim.Native.Nat.{ℕ, zero, suc, ◌*◌, ◌<◌}
use mathlib.Core.Bool.{Bool, true, false}
use mathlib.Core.List.{◌++◌, flatten}
use mathlib.Core.Option.{none, some}
use native.Mathlib.Omega.{arith}
use native.Mathlib.Decide.{le_ind, dec_le}
use lib.ListN.{drop}
use Rattle.loes.specs.Bytes.{Bytes, tabulate}
use Rattle.loes.specs.Keys.{less}
use Rattle.loes.specs.Entry.{key_bytes}
use Rattle.loes.specs.Refusals.{unused_bit_set, descending, test, first_of}
use Rattle.loes.specs.Model.{unused_set}
use Rattle.loes.proofs.Tests.{none_append, none_test, none_first, some_first}
use Rattle.loes.proofs.WellFormed.{flatten_snoc}
use Rattle.loes.proofs.Histories.{length_key}
use Rattle.pack.specs.Rising.{Rising}
use Rattle.pack.specs.declared.batch.Batch.{Batch}
use Rattle.pack.specs.Batch.{key, key_at, previous, key_tests, tests_below}
use Rattle.pack.proofs.Places.{unused_at}

-- ---- one key
module _ (batch : Batch) (i : ℕ) where
  abbrev m : ℕ
  m = batch.width

  abbrev l : Bytes
  l = batch.bytes.now

  unused_is : (b : Bool) → b ≡ unused_set m (key_at batch i) → unused_set m (drop (key_bytes m * i) l) ≡ b
  unused_is b e = sym (e ∙ unused_at batch i)

  pub unused_refused : true ≡ unused_set m (key_at batch i) → first_of (key_tests m l i) ≡ some unused_bit_set
  unfolding key_tests first_of test
  unused_refused e = rw (unused_is true e)

  module _ (used : false ≡ unused_set m (key_at batch i)) where
    pub descending_refused : true ≡ less (key m l i) (previous (key m l) i) → first_of (key_tests m l i) ≡ some descending
    unfolding key_tests first_of test
    descending_refused e = rw (unused_is false used, ← e)

    pub key_passes : false ≡ less (key m l i) (previous (key m l) i) → first_of (key_tests m l i) ≡ none
    unfolding key_tests first_of test
    key_passes e = rw (unused_is false used, ← e)

-- ---- the keys below n
module _ (m : ℕ) (l : Bytes) where
  pub none_tested : first_of (tests_below m l 0) ≡ none
  unfolding tests_below tabulate flatten first_of
  none_tested = refl

  pub below_suc : (i : ℕ) → tests_below m l (suc i) ≡ tests_below m l i ++ key_tests m l i
  unfolding tests_below tabulate
  below_suc i = flatten_snoc (tabulate (key_tests m l) i) (key_tests m l i)

  pub one_more : (i : ℕ) → first_of (tests_below m l i) ≡ none → first_of (tests_below m l (suc i)) ≡ first_of (key_tests m l i)
  one_more i h = rw (below_suc i) (none_first (tests_below m l i) (key_tests m l i) h)

  pub first_refused : (i n k : ℕ) → i < n → first_of (tests_below m l i) ≡ none → first_of (key_tests m l i) ≡ some k → first_of (tests_below m l n) ≡ some k
  first_refused i n k h b e =
      le_ind {n = suc i} (λ (j : ℕ). first_of (tests_below m l j) ≡ some k) (one_more i b ∙ e)
      (λ j q ih. rw (below_suc j) (some_first (tests_below m l j) (key_tests m l j) k ih)) n h

  none_at : (n i : ℕ) → first_of (tests_below m l n) ≡ none → i < n → first_of (key_tests m l i) ≡ none
  none_at zero i e h = absurd (omega arith)
  none_at (suc n) i e h =
      let z : (first_of (tests_below m l n) ≡ none) × (first_of (key_tests m l n) ≡ none) = none_append (tests_below m l n) (key_tests m l n) (rw (below_suc n) at e) in
      elim (dec_le (suc i) n) [
        | yes y ↦ none_at n i z.0 y
        | no y ↦ let q : i ≡ n = omega arith in rw q z.1
      ]

  -- keys that pass rise
  pub rising : (n : ℕ) → first_of (tests_below m l n) ≡ none → Rising m n (key m l)
  unfolding key_tests previous
  rising n e =
      record {
        wide = λ i h. length_key m (drop (key_bytes m * i) l);
        rise = λ i h. (none_test _ _ _ (none_test _ _ _ (none_at n (suc i) e h)).1).0;
      }
