-- Over every weighted history the store does as the accounts say, and every account is sound.
use mathlib.Core.Path.{◌≡◌, refl, sym, ap, ◌∙◌}
use Prim.Native.Nat.{ℕ, zero, suc, ◌≤◌, ◌<◌}
use mathlib.Core.Bool.{Bool, true, false, ◌&&◌, cond}
use mathlib.Core.List.{List, [], ◌∷◌, ◌++◌, map, map-append, append-nil}
use mathlib.Core.Option.{Option, none, some}
use native.Mathlib.Omega.{arith}
use lib.IntN.{ℤ, ◌+ℤ◌}
use lib.ListN.{length, take, drop, get_or, set, length-map}
use lib.Seq.{take-append_seam, take_at, set-get_or}
use Rattle.loes.specs.Limits.{max_edges}
use Rattle.loes.specs.Bytes.{Bytes, front}
use Rattle.loes.specs.Keys.{Key, smaller}
use Rattle.loes.specs.Entry.{keys_of, count, edge_count, wrong_width, too_many_edges, Valid}
use Rattle.loes.specs.Encode.{encode}
use Rattle.loes.specs.Refusals.{overflow, Tests, test, first_of}
use Rattle.loes.specs.Model.{refused, wrote, is_posted, is_absent, refusal, refused_or, tested, key_in, key_test, pack_tests, join_tests}
use Rattle.loes.specs.History.{at_place, cut, written_with}
use Rattle.loes.proofs.Tests.{no_lt, none_append, none_test}
use Rattle.loes.proofs.Lists.{get_d_map_in}
use Rattle.loes.proofs.Reading.{read_encode}
use Rattle.loes.proofs.Histories.{reading_encode, length_key, pack_valid, joined_same, union_valid, difference_valid}
use Rattle.weights.specs.Weights.{Weights, outside, outputs, WeightedOutcome, leaving, checked, list_test, sum_of, sum_test, writes_with, union_weighted, difference_weighted, post, pack_weighted_call, post_call, union_weighted_call, difference_weighted_call}
use Rattle.weights.specs.History.{Call, do_pack, do_post, do_union, do_difference, Account, batch_account, posted_account, union_account, difference_account, list_of, AccountStep, changes, step_to, post_on, adds, model_call, outcome_of, accounts_of, model_from, model_says, Stored, none_stored, store_call, count_read, stored_with, added_by, store_with, left_by, store_from, store_says, model_after, store_after, stored_of}
use Rattle.weights.specs.Agreement.{no_account}
use Rattle.weights.proofs.Lists.{list_passes, length_listed, sums_within}
use Rattle.weights.proofs.Accounts.{Sound, weight_held, batch_sound, posted_list, posted_sound, union_sound, difference_list, difference_sound}

-- ---- Sound accounts
abbrev pub AllSound : List Account → Type 0
AllSound [] = Unit {0}
AllSound (a ∷ t) = Sound a × AllSound t

sound_append : (t : List Account) (a : Account) → AllSound t → Sound a → AllSound (t ++ a ∷ [])
sound_append [] a h s = (s, tt)
sound_append (b ∷ t) a h s = (h.0, sound_append t a h.1 s)

sound_set : (t : List Account) (i : ℕ) (a : Account) → AllSound t → Sound a → AllSound (set t i a)
sound_set [] i a h s = tt
sound_set (b ∷ t) zero a h s = (s, h.1)
sound_set (b ∷ t) (suc i) a h s = (h.0, sound_set t i a h.1 s)

sound_at : (t : List Account) (i : ℕ) → AllSound t → i < length t → Sound (get_or t i no_account)
sound_at [] i h l = absurd (omega arith)
sound_at (a ∷ t) zero h l = h.0
sound_at (a ∷ t) (suc i) h l = sound_at t i h.1 (omega arith)

map_set : {A B : Type 0} (f : A → B) (l : List A) (i : ℕ) (a : A) → map f (set l i a) ≡ set (map f l) i (f a)
map_set f [] i a = refl
map_set f (x ∷ l) zero a = refl
map_set f (x ∷ l) (suc i) a = rw (map_set f l i a)

-- ---- A call on what the store has is the model's call on accounts
own_list : (a : Account) → list_test a.entry (list_of a) ≡ none
unfolding list_of
own_list a = list_passes a.entry _ (length_listed a.entry a.held)

-- a test that does not hold can be left out
passed_over : (x : Option ℕ) (ts : Tests) (bufs : List Bytes) (ws : Weights) (done : WeightedOutcome) → checked (x ∷ none ∷ ts) bufs ws done ≡ checked (x ∷ ts) bufs ws done
unfolding checked tested first_of
passed_over none ts bufs ws done = refl
passed_over (some k) ts bufs ws done = refl

union_agrees : (a b : Account) (out : Bytes) (ws : Weights) → Sound a → Sound b
    → union_weighted_call (encode a.entry) (list_of a) (encode b.entry) (list_of b) out ws
    ≡ writes_with (join_tests a.entry b.entry) (sum_test a.entry b.entry a.held b.held ∷ []) (union_account a b).entry (list_of (union_account a b)) out ws
unfolding union_weighted_call union_weighted writes_with join_tests
union_agrees a b out ws s r =
    rw (reading_encode a.entry (outputs (out ∷ []) ws) _ s.valid, reading_encode b.entry (outputs (out ∷ []) ws) _ r.valid, own_list a, own_list b, weight_held a s, weight_held b r, passed_over, passed_over)
    (unfold union_account list_of in refl)

difference_agrees : (a b : Account) (out : Bytes) (ws : Weights) → Sound a → Sound b
    → difference_weighted_call (encode a.entry) (list_of a) (encode b.entry) out ws
    ≡ writes_with (join_tests a.entry b.entry) [] (difference_account a b.entry).entry (list_of (difference_account a b.entry)) out ws
unfolding difference_weighted_call difference_weighted writes_with join_tests
difference_agrees a b out ws s r =
    rw (reading_encode a.entry (outputs (out ∷ []) ws) _ s.valid, reading_encode b.entry (outputs (out ∷ []) ws) _ r.valid, own_list a, weight_held a s, difference_list a b.entry, passed_over)
    (unfold difference_account in refl)

post_agrees : (a : Account) (x : Bytes) (amount : ℤ) → Sound a → post_call (encode a.entry) (list_of a) x amount ≡ post_on a x amount
unfolding post_call post post_on checked tested first_of
post_agrees a x amount s =
    rw (reading_encode a.entry (outputs [] (list_of a)) _ s.valid, own_list a, weight_held a s)
    (ap (checked (key_test a.entry.width x ∷ test (a.entry.set key && outside (a.held key +ℤ amount)) overflow ∷ []) [] (list_of a)) (go (a.entry.set key) refl))
  where
    key : Key
    key = key_in a.entry.width x

    go : (b : Bool) → a.entry.set key ≡ b
        → cond b (leaving is_posted [] (set (list_of a) (smaller key (keys_of a.entry)) (a.held key +ℤ amount))) (leaving is_absent [] (list_of a))
        ≡ cond b (leaving is_posted [] (list_of (posted_account a key amount))) (leaving is_absent [] (list_of a))
    go true z = rw (posted_list a key amount s (length_key a.entry.width x) z)
    go false z = refl

-- ---- What a step leaves: the store is again what it has for the accounts, and they are sound
abbrev Leaves : List Account → Call → Option AccountStep → Type 0
Leaves t c s = (left_by (map stored_of t) c (outcome_of s) ≡ map stored_of (accounts_of t s)) × AllSound (accounts_of t s)

-- it does if a refused call changes nothing
step_leaves : (t u : List Account) (c : Call) (ts : Tests) (bufs : List Bytes) (ws : Weights) (done : WeightedOutcome) → AllSound t
    → ((k : ℕ) → store_with (map stored_of t) c (leaving (refused k) bufs ws) ≡ map stored_of t) → (first_of ts ≡ none → Leaves t c (some (step_to t u done)))
    → Leaves t c (some (step_to t u (checked ts bufs ws done)))
unfolding checked tested
step_leaves t u c ts bufs ws done h f g = go (first_of ts) refl
  where
    go : (o : Option ℕ) → first_of ts ≡ o → Leaves t c (some (step_to t u (refused_or o (outputs bufs ws) (record { outcome = done; added = [] })).outcome))
    go none z = unfold refused_or in g z
    go (some k) z = unfold refused_or refusal outcome_of left_by accounts_of step_to changes in (f k, h)

-- what was written, cut from the buffer and the list
kept_front : (a : Account) (out : Bytes) (ws : Weights) → Valid a.entry
    → stored_with (front (list_of a) ws) (take (length (encode a.entry)) (front (encode a.entry) out)) ≡ stored_of a
unfolding stored_with stored_of front count_read
kept_front a out ws v =
    let n : length (list_of a) ≡ count a.entry = unfold list_of in length_listed a.entry a.held in
    rw (take-append_seam (encode a.entry) (drop (length (encode a.entry)) out), read_encode a.entry v, take_at (list_of a) (drop (length (list_of a)) ws) (count a.entry) n)

-- a call that writes
adds_leaves : (t : List Account) (c : Call) (ts last : Tests) (a : Account) (out : Bytes) (ws : Weights) → AllSound t
    → ((o : WeightedOutcome) → store_with (map stored_of t) c o ≡ map stored_of t ++ added_by o)
    → (first_of ts ≡ none → edge_count a.entry ≤ max_edges → first_of last ≡ none → Sound a) → Leaves t c (some (adds t ts last a out ws))
unfolding adds writes_with too_many_edges
adds_leaves t c ts last a out ws h more f =
    step_leaves t (t ++ a ∷ []) c _ (out ∷ []) ws _ h (λ k. more _ ∙ unfold added_by written_with in append-nil (map stored_of t))
    (λ z.
    let p = none_append ts _ z in
    let q = none_test _ _ _ p.1 in
    written (f p.0 (no_lt max_edges (edge_count a.entry) q.0) (none_test _ _ _ q.1).1))
  where
    done : WeightedOutcome
    done = leaving (wrote (length (encode a.entry) ∷ [])) (front (encode a.entry) out ∷ []) (front (list_of a) ws)

    written : Sound a → Leaves t c (some (step_to t (t ++ a ∷ []) done))
    written s =
        unfold outcome_of left_by accounts_of step_to changes in
        (more done ∙ unfold added_by written_with cut in rw (kept_front a out ws s.valid) (sym (map-append stored_of t (a ∷ []))), sound_append t a h s)

-- a post
post_leaves : (t : List Account) (i : ℕ) (a : Account) (x : Bytes) (amount : ℤ) → AllSound t → Sound a → get_or (map stored_of t) i none_stored ≡ stored_of a
    → Leaves t (do_post i x amount) (some (step_to t (set t i (posted_account a (key_in a.entry.width x) amount)) (post_on a x amount)))
unfolding post_on key_test store_with
post_leaves t i a x amount h s there =
    step_leaves t _ _ _ [] (list_of a) _ h (λ k. stays) (λ z. go (a.entry.set key) refl (none_test _ _ _ (none_test _ _ _ z).1).0)
  where
    key : Key
    key = key_in a.entry.width x

    account : Account
    account = posted_account a key amount

    stays : set (map stored_of t) i (record { encoding = (get_or (map stored_of t) i none_stored).encoding; list = list_of a }) ≡ map stored_of t
    stays =
        let q : record { encoding = (get_or (map stored_of t) i none_stored).encoding; list = list_of a } ≡ get_or (map stored_of t) i none_stored = rw there (unfold stored_of in refl) in
        rw q (set-get_or (map stored_of t) i none_stored)

    go : (b : Bool) → a.entry.set key ≡ b → (b && outside (a.held key +ℤ amount)) ≡ false
        → Leaves t (do_post i x amount) (some (step_to t (set t i account) (cond b (leaving is_posted [] (list_of account)) (leaving is_absent [] (list_of a)))))
    go true z small =
        unfold outcome_of left_by store_with accounts_of step_to changes in
        (rw (there, map_set stored_of t i account) (unfold stored_of posted_account in refl), sound_set t i account h (posted_sound a key amount s (length_key a.entry.width x) z small))
    go false z small = unfold outcome_of left_by store_with accounts_of step_to changes in (stays, h)

-- ---- Any call: the outcome is the same too
abbrev Agrees : List Account → Call → Option WeightedOutcome → Option AccountStep → Type 0
Agrees t c r s = (r ≡ outcome_of s) × Leaves t c s

at_agrees : (t : List Account) (c : Call) (u : List Account) (i : ℕ) (p : Stored → Option WeightedOutcome) (q : Account → Option AccountStep) → AllSound t → AllSound u
    → ((a : Account) → Sound a → get_or (map stored_of u) i none_stored ≡ stored_of a → Agrees t c (p (stored_of a)) (q a)) → Agrees t c (at_place (map stored_of u) i p) (at_place u i q)
unfolding at_place
at_agrees t c [] i p q h g f = unfold left_by outcome_of accounts_of in (refl, (refl, h))
at_agrees t c (a ∷ u) zero p q h g f = f a g.0 refl
at_agrees t c (a ∷ u) (suc i) p q h g f = at_agrees t c u i p q h g.1 f

-- accounts that an accepted call adds
batch_made : (m : ℕ) (batch : Bytes) → first_of (pack_tests m batch) ≡ none → edge_count (batch_account m batch).entry ≤ max_edges → Sound (batch_account m batch)
unfolding pack_tests batch_account
batch_made m batch z q = batch_sound m batch (pack_valid m batch (none_test (wrong_width m) _ _ z).0 q)

union_made : (a b : Account) → Sound a → Sound b → first_of (join_tests a.entry b.entry) ≡ none → edge_count (union_account a b).entry ≤ max_edges
    → first_of (sum_test a.entry b.entry a.held b.held ∷ []) ≡ none → Sound (union_account a b)
unfolding union_account sum_of
union_made a b s r z q y =
    union_sound a b s r (joined_same a.entry b.entry z) (union_valid a.entry b.entry s.valid r.valid z q)
    ((sums_within a.entry b.entry a.held b.held s.valid).0 y)

difference_made : (a b : Account) → Sound a → edge_count (difference_account a b.entry).entry ≤ max_edges → Sound (difference_account a b.entry)
unfolding difference_account
difference_made a b s q = difference_sound a b.entry s (difference_valid a.entry b.entry s.valid q)

call_agrees : (t : List Account) (c : Call) → AllSound t → Agrees t c (store_call (map stored_of t) c) (model_call t c)
unfolding store_call model_call outcome_of store_with adds step_to stored_of
call_agrees t (do_pack m batch out ws) h = (
  unfold pack_weighted_call batch_account list_of in refl,
  adds_leaves t _ (pack_tests m batch) [] (batch_account m batch) out ws h (λ o. refl) (λ z q y. batch_made m batch z q),
)
call_agrees t (do_post i x amount) h =
    at_agrees t _ t i _ _ h h (λ a s there. (ap some (post_agrees a x amount s), post_leaves t i a x amount h s there))
call_agrees t (do_union i j out ws) h =
    at_agrees t _ t i _ _ h h
    (λ a s there. at_agrees t _ t j _ _ h h
    (λ b r there. (ap some (union_agrees a b out ws s r), adds_leaves t _ _ _ (union_account a b) out ws h (λ o. refl) (union_made a b s r))))
call_agrees t (do_difference i j out ws) h =
    at_agrees t _ t i _ _ h h
    (λ a s there. at_agrees t _ t j _ _ h h
    (λ b r there. (
      ap some (difference_agrees a b out ws s r),
      adds_leaves t _ _ [] (difference_account a b.entry) out ws h (λ o. refl) (λ z q y. difference_made a b s q),
    )))

-- ---- The whole list
pub record Runs (t : List Account) (h : List Call) : Type 0 where
  pub says : store_says (map stored_of t) h ≡ model_says t h
  pub keeps : store_from (map stored_of t) h ≡ map stored_of (model_from t h)
  pub sound : AllSound (model_from t h)

pub runs : (h : List Call) (t : List Account) → AllSound t → Runs t h
unfolding store_says model_says store_from model_from
runs [] t f = record { says = refl; keeps = refl; sound = f }
runs (c ∷ h) t f =
    let a = call_agrees t c f in
    let r = runs h (accounts_of t (model_call t c)) a.1.1 in
    let q : left_by (map stored_of t) c (store_call (map stored_of t) c) ≡ map stored_of (accounts_of t (model_call t c)) = rw a.0 a.1.0 in
    record { says = rw (q, a.0) (ap (λ l. outcome_of (model_call t c) ∷ l) r.says); keeps = rw q r.keeps; sound = r.sound }

module _ (h : List Call) where
  pub store_kept : store_after h ≡ map stored_of (model_after h)
  unfolding store_after model_after
  store_kept = (runs h [] tt).keeps

  module _ (p : ℕ) (l : p < length (store_after h)) where
    below : p < length (model_after h)
    below = omega (arith, ap length store_kept, length-map (model_after h) stored_of)

    pub kept_at : get_or (store_after h) p none_stored ≡ stored_of (get_or (model_after h) p no_account)
    kept_at = rw store_kept (get_d_map_in stored_of (model_after h) p no_account none_stored below)

    pub account_sound : Sound (get_or (model_after h) p no_account)
    account_sound = sound_at (model_after h) p (unfold model_after in (runs h [] tt).sound) below
