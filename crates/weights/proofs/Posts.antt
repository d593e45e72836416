-- From the index of a key to its post.
use mathlib.Core.Path.{◌≡◌, refl, ap, ◌∙◌}
use Prim.Native.Nat.{ℕ, ◌<◌}
use mathlib.Core.Bool.{Bool, true, false, ◌||◌, cond, not}
use mathlib.Core.List.{[]}
use mathlib.Core.Option.{none, some}
use native.Mathlib.Omega.{arith}
use lib.IntN.{ℤ, ◌+ℤ◌}
use lib.ListN.{length, get_or, set}
use lib.Dec.{eqb}
use Rattle.loes.specs.Bytes.{Bytes}
use Rattle.loes.specs.Keys.{Key, smaller}
use Rattle.loes.specs.Entry.{Entry, key_bytes, keys_of, count}
use Rattle.loes.specs.Refusals.{bad_key, wrong_list, overflow, test, first_of}
use Rattle.loes.specs.Model.{refused, is_absent, index_is, is_posted, Outcome, refusal, refused_or, tested, answers, key_in, unused_set, key_test, index_of}
use Rattle.loes.proofs.Histories.{length_key}
use Rattle.query.specs.Answers.{lookup_outcome}
use Rattle.std.specs.Prelude.{Option, Some, None, Result, Ok, Err}
use Rattle.loes.specs.Numbers.{number_of}
use Rattle.loes.specs.declared.refusal.Refusal.{Refusal}
use Rattle.bits.specs.declared.MemberIndex.{MemberIndex}
use Rattle.weights.specs.Weights.{Weights, no_weight, weight_of, outside, leaving, checked, post}
use Rattle.weights.specs.Answers.{posted_at}
use Rattle.weights.proofs.Lists.{list_passes, list_fails, index_below}

-- ---- What a post does, test by test
module _ (e : Entry) (ws : Weights) (x : Bytes) (amount : ℤ) where
  abbrev k : Key
  k = key_in e.width x

  pub post_wrong : (length ws ≡ count e → ⊥) → post e ws x amount ≡ leaving (refused wrong_list) [] ws
  unfolding post checked tested
  post_wrong n = rw (list_fails e ws n) (unfold first_of refused_or refusal in refl)

  module _ (n : length ws ≡ count e) where
    pub post_bad_key : (j : ℕ) → key_test e.width x ≡ some j → post e ws x amount ≡ leaving (refused j) [] ws
    unfolding post checked tested
    post_bad_key j z = rw (list_passes e ws n, z) (unfold first_of test refused_or refusal in refl)

    pub post_absent : key_test e.width x ≡ none → e.set k ≡ false → post e ws x amount ≡ leaving is_absent [] ws
    unfolding post checked tested
    post_absent z i = rw (list_passes e ws n, z, i) (unfold first_of test refused_or in refl)

    pub post_leaves : key_test e.width x ≡ none → e.set k ≡ true → outside (weight_of e ws k +ℤ amount) ≡ true → post e ws x amount ≡ leaving (refused overflow) [] ws
    unfolding post checked tested
    post_leaves z i o = rw (list_passes e ws n, z, i, o) (unfold first_of test refused_or refusal in refl)

    pub post_posts : key_test e.width x ≡ none → e.set k ≡ true → outside (weight_of e ws k +ℤ amount) ≡ false
        → post e ws x amount ≡ leaving is_posted [] (set ws (smaller k (keys_of e)) (weight_of e ws k +ℤ amount))
    unfolding post checked tested
    post_posts z i o = rw (list_passes e ws n, z, i, o) (unfold first_of test refused_or in refl)

    -- the same, by the entry at the key's index
    pub post_present : key_test e.width x ≡ none → e.set k ≡ true → post e ws x amount ≡ posted_at ws (smaller k (keys_of e)) amount
    unfolding posted_at
    post_present z i = go (outside (get_or ws (smaller k (keys_of e)) no_weight +ℤ amount)) refl
      where
        here : weight_of e ws k ≡ get_or ws (smaller k (keys_of e)) no_weight
        here = unfold weight_of in rw i

        go : (b : Bool) → outside (get_or ws (smaller k (keys_of e)) no_weight +ℤ amount) ≡ b
            → post e ws x amount
            ≡ cond b (leaving (refused overflow) [] ws) (leaving is_posted [] (set ws (smaller k (keys_of e)) (get_or ws (smaller k (keys_of e)) no_weight +ℤ amount)))
        go true o = post_leaves z i (rw here o)
        go false o = post_posts z i (rw here o) ∙ rw here

-- ---- What a lookup says of a post to a list of the right length
abbrev pub Finds : Entry → Bytes → Result (Option MemberIndex) Refusal → Type 0
Finds e x (Err k) = (ws : Weights) (amount : ℤ) → length ws ≡ count e → post e ws x amount ≡ leaving (refused (number_of k)) [] ws
Finds e x (Ok None) = (ws : Weights) (amount : ℤ) → length ws ≡ count e → post e ws x amount ≡ leaving is_absent [] ws
Finds e x (Ok (Some i)) = (i.0 < count e) × ((ws : Weights) (amount : ℤ) → length ws ≡ count e → post e ws x amount ≡ posted_at ws i.0 amount)

module _ (e : Entry) (x : Bytes) where
  abbrev key : Key
  key = key_in e.width x

  abbrev bad : Bool
  bad = not (eqb (length x) (key_bytes e.width)) || unused_set e.width x

  answer_bad : bad ≡ true → (index_of e x).outcome.answer ≡ refused bad_key
  unfolding index_of answers tested key_test test first_of refused_or refusal
  answer_bad z = rw z

  answer_good : (b : Bool) → bad ≡ false → e.set key ≡ b → (index_of e x).outcome.answer ≡ cond b (index_is (smaller key (keys_of e))) is_absent
  unfolding index_of answers tested key_test test first_of refused_or
  answer_good b z y = rw (z, y)

  key_bad : bad ≡ true → key_test e.width x ≡ some bad_key
  unfolding key_test test
  key_bad z = rw z

  key_good : bad ≡ false → key_test e.width x ≡ none
  unfolding key_test test
  key_good z = rw z

  pub finds : (r : Result (Option MemberIndex) Refusal) → lookup_outcome r ≡ (index_of e x).outcome → Finds e x r
  finds (Err k) h = go bad refl (e.set key) refl
    where
      told : refused (number_of k) ≡ (index_of e x).outcome.answer
      told = ap (λ (o : Outcome). o.answer) h

      go : (b : Bool) → bad ≡ b → (p : Bool) → e.set key ≡ p → Finds e x (Err k)
      go true z p y = λ ws amount long. post_bad_key e ws x amount long bad_key (key_bad z) ∙ ap (λ n. leaving (refused n) [] ws) (let q = answer_bad z in let w : bad_key ≡ number_of k = cc in w)
      go false z true y = let q = answer_good true z y in let w : ◌≡◌ {A = ℕ} 0 1 = cc in absurd (let n : ⊥ = omega arith in n)
      go false z false y = let q = answer_good false z y in let w : ◌≡◌ {A = ℕ} 0 1 = cc in absurd (let n : ⊥ = omega arith in n)
  finds (Ok None) h = go bad refl (e.set key) refl
    where
      told : is_absent ≡ (index_of e x).outcome.answer
      told = ap (λ (o : Outcome). o.answer) h

      go : (b : Bool) → bad ≡ b → (p : Bool) → e.set key ≡ p → Finds e x (Ok None)
      go true z p y = let q = answer_bad z in let w : ◌≡◌ {A = ℕ} 0 1 = cc in absurd (let n : ⊥ = omega arith in n)
      go false z true y = let q = answer_good true z y in let w : ◌≡◌ {A = ℕ} 0 1 = cc in absurd (let n : ⊥ = omega arith in n)
      go false z false y = λ ws amount long. post_absent e ws x amount long (key_good z) y
  finds (Ok (Some i)) h = go bad refl (e.set key) refl
    where
      told : index_is i.0 ≡ (index_of e x).outcome.answer
      told = ap (λ (o : Outcome). o.answer) h

      go : (b : Bool) → bad ≡ b → (p : Bool) → e.set key ≡ p → Finds e x (Ok (Some i))
      go true z p y = let q = answer_bad z in let w : ◌≡◌ {A = ℕ} 0 1 = cc in absurd (let n : ⊥ = omega arith in n)
      go false z false y = let q = answer_good false z y in let w : ◌≡◌ {A = ℕ} 0 1 = cc in absurd (let n : ⊥ = omega arith in n)
      go false z true y =
          let q = answer_good true z y in
          let w : smaller key (keys_of e) ≡ i.0 = cc in (
            rw (← w) (index_below e key (length_key e.width x) y),
            λ ws amount long. post_present e ws x amount long (key_good z) y ∙ ap (λ n. posted_at ws n amount) w,
          )
