-- Lists beside entries: a list is that of an entry if each entry of it is the weight of the key at its index.
use mathlib.Core.Path.{◌≡◌, refl, sym, ap, ◌∙◌, fun_ext}
use Prim.Native.Nat.{ℕ, ◌<◌}
use mathlib.Core.Logic.{◌↔◌}
use mathlib.Core.Bool.{Bool, true, false, ◌&&◌, cond, false≢true}
use mathlib.Core.List.{[], ◌∷◌}
use mathlib.Core.Option.{none, some}
use native.Mathlib.Omega.{arith}
use lib.IntN.{ℤ, ◌+ℤ◌}
use lib.ListN.{length, get_or, set, length-map, length-set}
use lib.Seq.{ext_get_or, get_or-set_same, get_or-set_other}
use Rattle.loes.specs.Keys.{Key, any_of, same_key, smaller, either}
use Rattle.loes.specs.Entry.{Entry, keys_of, count, with_set, Valid}
use Rattle.loes.specs.Refusals.{wrong_list, test, first_of}
use Rattle.loes.specs.Model.{union_entry}
use Rattle.loes.proofs.Tests.{same_refl, same_eq, eq_yes, eq_no, none_test}
use Rattle.loes.proofs.Lists.{get_d_map_in, any_of_none}
use Rattle.loes.proofs.Tree.{false_if, before_smaller, index_lt, members_at}
use Rattle.loes.proofs.Members.{smaller_at, inside_at}
use Rattle.loes.proofs.Cursors.{any_of_at}
use Rattle.weights.specs.Weights.{Weights, no_weight, weight_of, listed, outside, list_test, sum_of, sum_test}

-- ---- Keys
-- a member has an index, and stands there
module _ (e : Entry) (k : Key) (sized : length k ≡ e.width) (inside : e.set k ≡ true) where
  pub index_below : smaller k (keys_of e) < count e
  unfolding count keys_of
  index_below = rw (before_smaller k e.width e.set sized) (index_lt k e.width e.set sized inside)

  pub key_there : get_or (keys_of e) (smaller k (keys_of e)) [] ≡ k
  unfolding keys_of
  key_there = rw (before_smaller k e.width e.set sized) (members_at k e.width e.set sized inside)

  -- a test that takes no member does not take it
  pub not_taken : (f : Key → Bool) → any_of f (keys_of e) ≡ false → f k ≡ false
  unfolding count
  not_taken f h = false_if (λ z. any_of_at f (keys_of e) (smaller k (keys_of e)) [] index_below (rw key_there z)) h

-- ---- 17: no sum of a key that both have leaves 32 signed bits
pub sums_within : (e f : Entry) (w v : Key → ℤ) → Valid e
    → (first_of (sum_test e f w v ∷ []) ≡ none) ↔ ((k : Key) → e.set k ≡ true → f.set k ≡ true → outside (w k +ℤ v k) ≡ false)
unfolding sum_test sum_of
sums_within e f w v g = (
  λ y k i j.
      let n = not_taken (union_entry e f) k (unfold with_set in g.sized k i) (unfold with_set either in rw i) _ (none_test _ _ _ y).0 in
      rw (i, j) at n,
  λ h. unfold first_of test in rw (fun_ext (λ (k : Key). go k (e.set k) (f.set k) (h k)), any_of_none (keys_of (union_entry e f))),
)
  where
    go : (k : Key) (p q : Bool) → (p ≡ true → q ≡ true → outside (w k +ℤ v k) ≡ false) → (p && q && outside (w k +ℤ v k)) ≡ false
    go k true true h = h refl refl
    go k true false h = refl
    go k false q h = refl

-- ---- 16: a list that is as long as an entry has members passes, any other does not
module _ (e : Entry) (ws : Weights) where
  pub list_passes : length ws ≡ count e → list_test e ws ≡ none
  unfolding list_test test
  list_passes h = rw (h, eq_yes (count e))

  pub list_fails : (length ws ≡ count e → ⊥) → list_test e ws ≡ some wrong_list
  unfolding list_test test
  list_fails h = rw (eq_no (length ws) (count e) h)

-- ---- The list of an entry
module _ (e : Entry) (w : Key → ℤ) where
  pub length_listed : length (listed e w) ≡ count e
  unfolding listed count
  length_listed = length-map (keys_of e) w

  pub listed_at : (i : ℕ) → i < count e → get_or (listed e w) i no_weight ≡ w (get_or (keys_of e) i [])
  unfolding listed count
  listed_at i h = get_d_map_in w (keys_of e) i [] no_weight h

  -- a member's weight stands at its index
  pub member_at : (k : Key) → length k ≡ e.width → e.set k ≡ true → get_or (listed e w) (smaller k (keys_of e)) no_weight ≡ w k
  member_at k sized inside = listed_at (smaller k (keys_of e)) (index_below e k sized inside) ∙ ap w (key_there e k sized inside)

  listed_is : (l : Weights) → length l ≡ count e → ((i : ℕ) → i < count e → get_or l i no_weight ≡ w (get_or (keys_of e) i [])) → l ≡ listed e w
  listed_is l n f = ext_get_or no_weight l (listed e w) (n ∙ sym length_listed) (λ i h. let q : i < count e = omega arith in f i q ∙ sym (listed_at i q))

  -- the weight of a key is the one that it was listed with, if no other key has any
  pub weight_listed : ((k : Key) → e.set k ≡ true → length k ≡ e.width) → ((k : Key) → e.set k ≡ false → w k ≡ no_weight) → weight_of e (listed e w) ≡ w
  unfolding weight_of
  weight_listed sized away = fun_ext (λ k. go k (e.set k) refl)
    where
      go : (k : Key) (b : Bool) → e.set k ≡ b → cond b (get_or (listed e w) (smaller k (keys_of e)) no_weight) no_weight ≡ w k
      go k true z = member_at k (sized k z) z
      go k false z = sym (away k z)

-- only the weights of members count
pub listed_same : (e : Entry) (w v : Key → ℤ) → ((k : Key) → e.set k ≡ true → w k ≡ v k) → listed e w ≡ listed e v
listed_same e w v f = listed_is e v (listed e w) (length_listed e w) (λ i h. listed_at e w i h ∙ f (get_or (keys_of e) i []) (inside_at e i h).1)

-- a member's weight changed
pub listed_set : (e : Entry) (w : Key → ℤ) (k : Key) (x : ℤ) → length k ≡ e.width → e.set k ≡ true
    → set (listed e w) (smaller k (keys_of e)) (w k +ℤ x) ≡ listed e (λ j. cond (same_key j k) (w j +ℤ x) (w j))
listed_set e w k x sized inside =
    listed_is e _ changed (length-set (listed e w) at (w k +ℤ x) ∙ length_listed e w) (λ j h. go j h (same_key (get_or (keys_of e) j []) k) refl)
  where
    at : ℕ
    at = smaller k (keys_of e)

    changed : Weights
    changed = set (listed e w) at (w k +ℤ x)

    go : (j : ℕ) → j < count e → (b : Bool) → same_key (get_or (keys_of e) j []) k ≡ b
        → get_or changed j no_weight ≡ cond b (w (get_or (keys_of e) j []) +ℤ x) (w (get_or (keys_of e) j []))
    go j h true z =
        let q : get_or (keys_of e) j [] ≡ k = same_eq _ k z in
        let r : j ≡ at = sym (smaller_at e j h) ∙ ap (λ y. smaller y (keys_of e)) q in
        rw (q, r) (get_or-set_same (listed e w) at (w k +ℤ x) no_weight (omega (arith, length_listed e w, index_below e k sized inside)))
    go j h false z =
        get_or-set_other (listed e w) at j (w k +ℤ x) no_weight
        (λ r. false≢true (sym z ∙ ap (λ i. same_key (get_or (keys_of e) i []) k) r ∙ rw (key_there e k sized inside) (same_refl k)))
        ∙ listed_at e w j h
