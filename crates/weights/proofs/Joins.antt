-- From two opened encodings of one width, and what merging or subtracting left, to the call.
use mathlib.Core.Path.{◌≡◌, refl, sym, ap, ◌∙◌}
use Prim.Native.Nat.{ℕ, ◌/◌, ◌≤◌}
use mathlib.Core.Bool.{Bool, true, false, false≢true}
use mathlib.Core.List.{[], ◌∷◌, ◌++◌}
use mathlib.Core.Option.{some}
use native.Mathlib.Omega.{arith}
use lib.ListN.{length}
use lib.Dec.{eqb}
use Rattle.loes.specs.Limits.{max_edges}
use Rattle.loes.specs.Bytes.{Bytes, tabulate}
use Rattle.loes.specs.Entry.{Entry, count, edges_of, with_set}
use Rattle.loes.specs.Refusals.{wrong_list, overflow, test, first_of}
use Rattle.loes.specs.Read.{read, opened, entry_in, entry_along}
use Rattle.loes.specs.Held.{entry_held}
use Rattle.loes.specs.Model.{refused, refusal, join_tests, union_entry, difference_entry}
use Rattle.loes.specs.Calls.{after_reading, reading}
use Rattle.loes.proofs.Tests.{yes_eq, eq_yes, none_first, some_first}
use Rattle.loes.proofs.Reading.{along_sized}
use Rattle.merge.specs.Union.{Merged}
use Rattle.restrict.specs.Restriction.{Subtracts}
use Rattle.join.specs.declared.Join.{Join}
use Rattle.join.specs.declared.Join.TheVariants as join
use Rattle.join.specs.Joining.{pair_refusal, Joined}
use Rattle.join.proofs.Joins.{widths_same, pair_refused, join_sized, held_valid, made}
use Rattle.join.specs.declared.pair.Pair.{Pair}
use Rattle.records.specs.declared.edge_bytes.EdgeBytes.{EdgeBytes}
use Rattle.weights.specs.Weights.{Weights, outputs, leaving, list_test, weight_of, listed, sum_of, sum_test, writes_with, union_weighted, difference_weighted, union_weighted_call, difference_weighted_call}
use Rattle.weights.specs.Answers.{weighted_call}
use Rattle.weights.specs.Lists.{sum_at, over_at, any_below, kept_to, Flagged}
use Rattle.weights.proofs.Writes.{writes_refused, writes_on}
use Rattle.weights.proofs.Lists.{list_passes, list_fails, length_listed}
use Rattle.weights.proofs.Members.{sums_listed, sums_tested, kept_listed}

-- ---- 16
module _ (e f : Entry) (same : e.width ≡ f.width) (we wf : Weights) (out : Bytes) (ws : Weights) where
  pub union_first_wrong : (length we ≡ count e → ⊥) → union_weighted e we f wf out ws ≡ leaving (refused wrong_list) (out ∷ []) ws
  unfolding union_weighted
  union_first_wrong h =
      writes_refused _ _ _ _ out ws wrong_list (none_first (join_tests e f) _ (widths_same e f same) ∙ unfold first_of in rw (list_fails e we h))

  pub union_second_wrong : length we ≡ count e → (length wf ≡ count f → ⊥) → union_weighted e we f wf out ws ≡ leaving (refused wrong_list) (out ∷ []) ws
  unfolding union_weighted
  union_second_wrong l h =
      writes_refused _ _ _ _ out ws wrong_list (none_first (join_tests e f) _ (widths_same e f same) ∙ unfold first_of in rw (list_passes e we l, list_fails f wf h))

  -- the second, whether the first is right or not
  pub union_either_wrong : (length wf ≡ count f → ⊥) → union_weighted e we f wf out ws ≡ leaving (refused wrong_list) (out ∷ []) ws
  union_either_wrong h = go (eqb (length we) (count e)) refl
    where
      go : (b : Bool) → eqb (length we) (count e) ≡ b → union_weighted e we f wf out ws ≡ leaving (refused wrong_list) (out ∷ []) ws
      go true z = union_second_wrong (yes_eq (length we) (count e) z) h
      go false z = union_first_wrong (λ l. absurd (false≢true (sym z ∙ ap (eqb (length we)) (sym l) ∙ eq_yes (length we))))

  union_on : length we ≡ count e → length wf ≡ count f
      → union_weighted e we f wf out ws ≡ writes_with [] (sum_test e f (weight_of e we) (weight_of f wf) ∷ []) (union_entry e f) (listed (union_entry e f) (sum_of (weight_of e we) (weight_of f wf))) out ws
  unfolding union_weighted
  union_on l k =
      writes_on (join_tests e f ++ list_test e we ∷ list_test f wf ∷ []) _ _ _ out ws
      (none_first (join_tests e f) _ (widths_same e f same) ∙ unfold first_of in rw (list_passes e we l, list_passes f wf k))

  pub difference_wrong : (length we ≡ count e → ⊥) → difference_weighted e we f out ws ≡ leaving (refused wrong_list) (out ∷ []) ws
  unfolding difference_weighted
  difference_wrong h =
      writes_refused _ _ _ _ out ws wrong_list (none_first (join_tests e f) _ (widths_same e f same) ∙ unfold first_of in rw (list_fails e we h))

  difference_on : length we ≡ count e → difference_weighted e we f out ws ≡ writes_with [] [] (difference_entry e f) (listed (difference_entry e f) (weight_of e we)) out ws
  unfolding difference_weighted
  difference_on l =
      writes_on (join_tests e f ++ list_test e we ∷ []) _ _ _ out ws
      (none_first (join_tests e f) _ (widths_same e f same) ∙ unfold first_of in rw (list_passes e we l))

-- ---- The edges of two entries of one width
module _ (x y : EdgeBytes) (w : x.width ≡ y.width) where
  abbrev d : Entry
  d = entry_held x.width x.bits x.bytes.now

  abbrev e : Entry
  e = entry_held y.width y.bits y.bytes.now

  alike : d.width ≡ e.width
  alike = unfold entry_held entry_along in w

  -- ---- What merging left
  module _ (Q P : Bytes) (k n : ℕ) (r : Merged d e Q P k n) where
    union_held : entry_held x.width k P ≡ union_entry d e
    unfolding entry_held entry_along with_set
    union_held = ap (entry_along x.width) r.edges ∙ along_sized (union_entry d e) x.holds.positive (join_sized join.Union d e (held_valid x.holds) (held_valid y.holds) alike)

    pub union_flagged : length Q ≤ max_edges → Flagged x.width k n P
    union_flagged small =
        record {
          positive = x.holds.positive;
          same = ap edges_of union_held ∙ sym r.edges;
          flags = record { fits = r.flags.fits; small = omega (arith, r.size) };
        }

    pub union_call : (wa wb : Weights) (out : Bytes) (ws : Weights) → length wa ≡ count d → length wb ≡ count e
        → writes_with [] (test (any_below (over_at P (k / 2) wa wb) n) overflow ∷ []) (entry_held x.width k P) (tabulate (sum_at P (k / 2) wa wb) n) out ws ≡ union_weighted d wa e wb out ws
    union_call wa wb out ws la lb =
        rw (union_held, sums_listed alike r.flags wa wb, sums_tested alike r.flags wa wb) (sym (union_on d e alike wa wb out ws la lb ∙ unfold sum_test in refl))

  -- ---- What subtracting left
  module _ (Q O P U : Bytes) (k r n : ℕ) (s : Subtracts d e Q O P U k r n) where
    pub difference_made : Joined x.width k U × (entry_held x.width k U ≡ difference_entry d e)
    difference_made = made join.Difference x.holds y.holds w s.edges

    -- as many entries as members are left
    pub difference_count : (wa : Weights) → length (kept_to P r wa n) ≡ count (entry_held x.width k U)
    difference_count wa = ap length (kept_listed alike s.flags wa) ∙ length_listed (difference_entry d e) (weight_of d wa) ∙ ap count (sym difference_made.1)

    pub difference_call : (wa : Weights) (out : Bytes) (ws : Weights) → length wa ≡ count d → writes_with [] [] (entry_held x.width k U) (kept_to P r wa n) out ws ≡ difference_weighted d wa e out ws
    difference_call wa out ws la = rw (difference_made.1, kept_listed alike s.flags wa) (sym (difference_on d e alike wa wa out ws la))

-- ---- The call, by what opening both told
pub call_refused : (kind : Join) (a b : Bytes) (k : ℕ) → pair_refusal (read a) (read b) ≡ some k → (wa wb : Weights) (out : Bytes) (ws : Weights)
    → weighted_call kind a wa b wb out ws ≡ leaving (refused k) (out ∷ []) ws
unfolding union_weighted_call difference_weighted_call union_weighted difference_weighted refusal
call_refused join.Union a b k h wa wb out ws =
    pair_refused a b k (outputs (out ∷ []) ws) _ h (λ e f z. writes_refused _ _ _ _ out ws k (some_first (join_tests e f) _ k z))
call_refused join.Difference a b k h wa wb out ws =
    pair_refused a b k (outputs (out ∷ []) ws) _ h (λ e f z. writes_refused _ _ _ _ out ws k (some_first (join_tests e f) _ k z))

module _ (p : Pair) (a b : Bytes) (ha : p.first.bytes.now ≡ a) (hb : p.second.bytes.now ≡ b) (wa wb : Weights) (out : Bytes) (ws : Weights) where
  reads_first : read a ≡ opened (entry_in p.first.bytes.now)
  reads_first = rw (← ha) p.first.opens.reads

  reads_second : read b ≡ opened (entry_in p.second.bytes.now)
  reads_second = rw (← hb) p.second.opens.reads

  pub union_opened : union_weighted (entry_in p.first.bytes.now) wa (entry_in p.second.bytes.now) wb out ws ≡ union_weighted_call a wa b wb out ws
  unfolding union_weighted_call reading after_reading
  union_opened = rw (reads_first, reads_second)

  pub difference_opened : difference_weighted (entry_in p.first.bytes.now) wa (entry_in p.second.bytes.now) out ws ≡ difference_weighted_call a wa b out ws
  unfolding difference_weighted_call reading after_reading
  difference_opened = rw (reads_first, reads_second)
