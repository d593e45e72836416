-- What each call with weights answers.
use mathlib.Core.Path.{◌≡◌, refl, sym, subst, ◌∙◌}
use mathlib.Core.Logic.{◌↔◌, ◌⊎◌, ⊎_elim}
use Prim.Native.Nat.{ℕ, ◌≤◌}
use mathlib.Core.Bool.{Bool, true, false, not}
use mathlib.Core.List.{List, [], ◌∷◌, ◌++◌}
use mathlib.Core.Option.{none}
use lib.IntN.{ℤ}
use lib.Signed.{lt_z, ◌≤ℤ◌, lt_z_yes, lt_z_no, clash_ℤ}
use lib.Dec.{T, ltb}
use lib.ListN.{length}
use Rattle.loes.specs.Limits.{max_edges}
use Rattle.loes.specs.Bytes.{Bytes}
use Rattle.loes.specs.Keys.{Key}
use Rattle.loes.specs.Entry.{Entry, count, edge_count, wrong_width, too_many_edges, Valid}
use Rattle.loes.specs.Encode.{encode}
use Rattle.loes.specs.Refusals.{wrong_list, Tests, test, first_of}
use Rattle.loes.specs.Model.{refused, pack_tests, batch_entry, join_tests, union_entry, difference_entry}
use Rattle.loes.proofs.Tests.{lt_no, no_lt, neither, none_append, none_test, none_first}
use Rattle.loes.proofs.Histories.{reading_encode, pack_valid, union_valid, difference_valid, tested_only}
use Rattle.weights.specs.Weights.{Weights, no_weight, weight_of, listed, least, greatest, outside, outputs, WeightedOutcome, leaving, checked, list_test, sum_of, sum_test, writes_with, union_weighted, difference_weighted, post, pack_weighted_call, post_call, union_weighted_call, difference_weighted_call}
use Rattle.weights.specs.Agreement.{WritesBoth, AnswersAgree}
use Rattle.weights.proofs.Lists.{sums_within, member_at}
use Rattle.weights.proofs.Writes.{checked_refused, checked_done}
use Rattle.weights.proofs.Joins.{union_first_wrong, union_either_wrong, difference_wrong}
use Rattle.weights.proofs.Posts.{post_wrong, post_bad_key, post_absent, post_leaves, post_posts}

checked_only : (ts : Tests) (bufs : List Bytes) (ws : Weights) (done : WeightedOutcome) → ((k : ℕ) → (checked ts bufs ws done).answer ≡ refused k → ⊥) → first_of ts ≡ none
unfolding checked
checked_only ts bufs ws done h = tested_only ts (outputs bufs ws) _ h

-- ---- Calls that write
writes_both : (ts last : Tests) (e : Entry) (l : Weights) (out : Bytes) (ws : Weights) → (first_of ts ≡ none → edge_count e ≤ max_edges → Valid e)
    → WritesBoth ts last e l out ws (writes_with ts last e l out ws)
unfolding writes_with too_many_edges
writes_both ts last e l out ws f =
    record {
      turned = λ k z. checked_refused _ (out ∷ []) ws _ k z;
      accepted = λ z v r s y.
          checked_done _ (out ∷ []) ws _
          (none_first ts _ z
          ∙ rw (lt_no max_edges (edge_count e) v.few, lt_no (length out) (length (encode e)) r, lt_no (length ws) (length l) s) (unfold first_of test in y));
      only = λ h.
          let a = none_append ts _ (checked_only _ (out ∷ []) ws _ h) in
          let b = none_test _ _ _ a.1 in
          let c = none_test _ _ _ b.1 in
          let room = neither (ltb (length out) (length (encode e))) (ltb (length ws) (length l)) c.0 in
          (a.0, f a.0 (no_lt max_edges (edge_count e) b.0), no_lt (length out) (length (encode e)) room.0, no_lt (length ws) (length l) room.1, c.1);
    }

pack_writes : (m : ℕ) (batch out : Bytes) (ws : Weights)
    → WritesBoth (pack_tests m batch) [] (batch_entry m batch) (listed (batch_entry m batch) (λ k. no_weight)) out ws (pack_weighted_call m batch out ws)
unfolding pack_weighted_call pack_tests
pack_writes m batch out ws = writes_both _ [] (batch_entry m batch) _ out ws (λ z. pack_valid m batch (none_test (wrong_width m) _ _ z).0)

union_writes : (e f : Entry) (we wf : Weights) (out : Bytes) (ws : Weights) → Valid e → Valid f
    → WritesBoth (join_tests e f ++ list_test e we ∷ list_test f wf ∷ []) (sum_test e f (weight_of e we) (weight_of f wf) ∷ [])
    (union_entry e f) (listed (union_entry e f) (sum_of (weight_of e we) (weight_of f wf))) out ws (union_weighted_call (encode e) we (encode f) wf out ws)
unfolding union_weighted_call union_weighted
union_writes e f we wf out ws g h =
    rw (reading_encode e (outputs (out ∷ []) ws) _ g, reading_encode f (outputs (out ∷ []) ws) _ h)
    (writes_both _ _ (union_entry e f) _ out ws (λ z. union_valid e f g h (none_append (join_tests e f) _ z).0))

difference_writes : (e f : Entry) (we : Weights) (out : Bytes) (ws : Weights) → Valid e → Valid f
    → WritesBoth (join_tests e f ++ list_test e we ∷ []) [] (difference_entry e f) (listed (difference_entry e f) (weight_of e we)) out ws
    (difference_weighted_call (encode e) we (encode f) out ws)
unfolding difference_weighted_call difference_weighted
difference_writes e f we out ws g h =
    rw (reading_encode e (outputs (out ∷ []) ws) _ g, reading_encode f (outputs (out ∷ []) ws) _ h)
    (writes_both _ _ (difference_entry e f) _ out ws (λ z. difference_valid e f g))

-- 16
union_wrong : (e f : Entry) (we wf : Weights) (out : Bytes) (ws : Weights) → Valid e → Valid f → e.width ≡ f.width
    → ((length we ≡ count e → ⊥) ⊎ (length wf ≡ count f → ⊥)) → union_weighted_call (encode e) we (encode f) wf out ws ≡ leaving (refused wrong_list) (out ∷ []) ws
unfolding union_weighted_call
union_wrong e f we wf out ws g h same n =
    reading_encode e (outputs (out ∷ []) ws) _ g ∙ reading_encode f (outputs (out ∷ []) ws) _ h ∙ ⊎_elim (union_first_wrong e f same we wf out ws) (union_either_wrong e f same we wf out ws) n

difference_list : (e f : Entry) (we : Weights) (out : Bytes) (ws : Weights) → Valid e → Valid f → e.width ≡ f.width → (length we ≡ count e → ⊥)
    → difference_weighted_call (encode e) we (encode f) out ws ≡ leaving (refused wrong_list) (out ∷ []) ws
unfolding difference_weighted_call
difference_list e f we out ws g h same n =
    reading_encode e (outputs (out ∷ []) ws) _ g ∙ reading_encode f (outputs (out ∷ []) ws) _ h ∙ difference_wrong e f same we we out ws n

-- ---- Posts
post_call_lem : (e : Entry) (ws : Weights) (x : Bytes) (amount : ℤ) → Valid e → post_call (encode e) ws x amount ≡ post e ws x amount
unfolding post_call
post_call_lem e ws x amount v = reading_encode e (outputs [] ws) _ v

-- ---- Weights, and their range
weight_is : (e : Entry) (w : Key → ℤ) (k : Key) → length k ≡ e.width → e.set k ≡ true → weight_of e (listed e w) k ≡ w k
unfolding weight_of
weight_is e w k sized inside = rw inside (member_at e w k sized inside)

not_below : (a b : ℤ) → (lt_z a b ≡ false) ↔ (b ≤ℤ a)
not_below a b = (λ h. lt_z_no (subst (λ (c : Bool). T (not c)) (sym h) tt), λ h. go (lt_z a b) refl h)
  where
    go : (c : Bool) → lt_z a b ≡ c → b ≤ℤ a → c ≡ false
    go true z h = clash_ℤ (lt_z_yes (subst T (sym z) tt)) h
    go false z h = refl

both_ends : (z : ℤ) → (outside z ≡ false) ↔ ((least ≤ℤ z) × (z ≤ℤ greatest))
unfolding outside
both_ends z = (
  λ h.
      let n = neither (lt_z z least) (lt_z greatest z) h in
      ((not_below z least).0 n.0, (not_below greatest z).0 n.1),
  λ h. rw ((not_below z least).1 h.0, (not_below greatest z).1 h.1),
)

pub answers_agree : AnswersAgree
answers_agree =
    record {
      pack = pack_writes;
      union = union_writes;
      sums = sums_within;
      difference = difference_writes;
      union_wrong = union_wrong;
      difference_wrong = difference_list;
      post_wrong = λ e ws x amount v n. post_call_lem e ws x amount v ∙ post_wrong e ws x amount n;
      post_bad_key = λ e ws x amount k v n z. post_call_lem e ws x amount v ∙ post_bad_key e ws x amount n k z;
      post_absent = λ e ws x amount v n z i. post_call_lem e ws x amount v ∙ post_absent e ws x amount n z i;
      post_leaves = λ e ws x amount v n z i o. post_call_lem e ws x amount v ∙ post_leaves e ws x amount n z i o;
      posts = λ e ws x amount v n z i o. post_call_lem e ws x amount v ∙ post_posts e ws x amount n z i o;
      weight = weight_is;
      ends = both_ends;
    }
