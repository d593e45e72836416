-- Demand 3: over every history the store does as the model does.
use mathlib.Core.Path.{◌≡◌, refl, sym, ap, ap₂, ◌∙◌, fun_ext}
use mathlib.Core.Logic.{◌↔◌}
use Prim.Native.Nat.{ℕ, zero, suc, ◌≤◌, ◌<◌}
use mathlib.Core.Bool.{Bool, true, false, ◌&&◌, ◌||◌, not, false≢true}
use mathlib.Core.List.{List, [], ◌∷◌, ◌++◌, map, map-append}
use mathlib.Core.Option.{Option, none, some}
use native.Mathlib.Omega.{arith}
use lib.ListN.{length, drop, get_or, length-map}
use lib.Seq.{take-append_seam}
use lib.Dec.{eqb, ltb}
use Rattle.loes.specs.Limits.{max_width, max_edges}
use Rattle.loes.specs.Bytes.{Bytes, front}
use Rattle.loes.specs.Keys.{Key, KeySet, any_of, same_key, same_bit, set_of, either, without, in_both}
use Rattle.loes.specs.Entry.{Entry, SameEntry, with_set, edge_count, wrong_width, too_many_edges, Valid}
use Rattle.loes.specs.Encode.{encode}
use Rattle.loes.specs.Refusals.{Tests, test, first_of}
use Rattle.loes.specs.Read.{read}
use Rattle.loes.specs.Model.{pack_tests, Answer, refused, wrote, wrote_key, index_is, rank_is, range_is, is_present, is_absent, is_none, is_posted, tells, OutcomeOf, Outcome, StepOf, Step, writing_all, refusal, refused_or, tested, fronts, any_short, writes, writes_key, answers, key_in, batch_keys, batch_entry, join_tests, union_entry, difference_entry, both_entry, pack, union, difference, split, contains, index_of, key_at, rank_at, lower_bound, prefix}
use Rattle.loes.specs.Calls.{after_reading, reading, pack_call, union_call, difference_call, split_call, contains_call, index_of_call, key_at_call, rank_call, lower_bound_call, prefix_call}
use Rattle.loes.specs.History.{Call, do_pack, do_union, do_difference, do_split, ask_contains, ask_index_of, ask_lower_bound, ask_key_at, ask_rank, ask_prefix, at_place, model_call, added_by, outcome_of, model_from, model_says, store_call, cut, written_with, written_by, store_from, store_says, model_after, store_after}
use Rattle.loes.specs.Demands.{Fit, Fronts, Writes, no_entry, HistoriesAgree}
use Rattle.loes.proofs.Tests.{lt_no, no_lt, yes_eq, neither, not_false, both, none_append, none_test, none_first}
use Rattle.loes.proofs.Lists.{get_d_map_in}
use Rattle.loes.proofs.Bits.{length_bits_in}
use Rattle.loes.proofs.Reading.{read_encode, opened_inj}

-- ---- Entries that are fine
abbrev pub AllValid : List Entry → Type 0
AllValid [] = Unit {0}
AllValid (e ∷ t) = Valid e × AllValid t

valid_append : (t u : List Entry) → AllValid t → AllValid u → AllValid (t ++ u)
valid_append [] u h g = g
valid_append (e ∷ t) u h g = (h.0, valid_append t u h.1 g)

valid_at : (t : List Entry) (i : ℕ) → AllValid t → i < length t → Valid (get_or t i no_entry)
valid_at [] i h l = absurd (omega arith)
valid_at (e ∷ t) zero h l = h.0
valid_at (e ∷ t) (suc i) h l = valid_at t i h.1 (omega arith)

-- ---- A call on the encodings of entries is the model's call on the entries
pub reading_encode : {L : Type 0} (e : Entry) (bufs : L) (next : Entry → OutcomeOf L) → Valid e → reading (encode e) bufs next ≡ next e
unfolding reading after_reading
reading_encode e bufs next f = rw (read_encode e f)

pub at_place_agree : (t : List Entry) (i : ℕ) (p : Bytes → Option Outcome) (q : Entry → Option Step) → AllValid t
    → ((e : Entry) → Valid e → p (encode e) ≡ outcome_of (q e)) → at_place (map encode t) i p ≡ outcome_of (at_place t i q)
unfolding at_place
at_place_agree [] i p q h f = unfold outcome_of in refl
at_place_agree (e ∷ t) zero p q h f = f e h.0
at_place_agree (e ∷ t) (suc i) p q h f = at_place_agree t i p q h.1 f

one_agree : (t : List Entry) (i : ℕ) (p : Bytes → Outcome) (q : Entry → Step) → AllValid t
    → ((e : Entry) → Valid e → p (encode e) ≡ (q e).outcome) → at_place (map encode t) i (λ a. some (p a)) ≡ outcome_of (at_place t i (λ e. some (q e)))
one_agree t i p q h f = at_place_agree t i (λ a. some (p a)) (λ e. some (q e)) h (λ e g. unfold outcome_of in ap some (f e g))

two_agree : (t : List Entry) (i j : ℕ) (p : Bytes → Bytes → Outcome) (q : Entry → Entry → Step) → AllValid t
    → ((e f : Entry) → Valid e → Valid f → p (encode e) (encode f) ≡ (q e f).outcome)
    → at_place (map encode t) i (λ a. at_place (map encode t) j (λ b. some (p a b))) ≡ outcome_of (at_place t i (λ e. at_place t j (λ f. some (q e f))))
two_agree t i j p q h f =
    at_place_agree t i (λ a. at_place (map encode t) j (λ b. some (p a b))) (λ e. at_place t j (λ f. some (q e f))) h
    (λ e g. one_agree t j (p (encode e)) (q e) h (λ d k. f e d g k))

pub call_agree : (t : List Entry) (c : Call) → AllValid t → store_call (map encode t) c ≡ outcome_of (model_call t c)
unfolding store_call model_call
call_agree t (do_pack m batch out) h = unfold outcome_of pack_call in refl
call_agree t (do_union i j out) h =
    two_agree t i j (λ a b. union_call a b out) (λ e f. union e f out) h
    (λ e f g k. unfold union_call in rw (reading_encode e (out ∷ []) _ g, reading_encode f (out ∷ []) _ k))
call_agree t (do_difference i j out) h =
    two_agree t i j (λ a b. difference_call a b out) (λ e f. difference e f out) h
    (λ e f g k. unfold difference_call in rw (reading_encode e (out ∷ []) _ g, reading_encode f (out ∷ []) _ k))
call_agree t (do_split i j x y z) h =
    two_agree t i j (λ a b. split_call a b x y z) (λ e f. split e f x y z) h
    (λ e f g k. unfold split_call in rw (reading_encode e (x ∷ y ∷ z ∷ []) _ g, reading_encode f (x ∷ y ∷ z ∷ []) _ k))
call_agree t (ask_contains i x) h =
    one_agree t i (λ a. contains_call a x) (λ e. contains e x) h (λ e g. unfold contains_call in reading_encode e [] _ g)
call_agree t (ask_index_of i x) h =
    one_agree t i (λ a. index_of_call a x) (λ e. index_of e x) h (λ e g. unfold index_of_call in reading_encode e [] _ g)
call_agree t (ask_lower_bound i x) h =
    one_agree t i (λ a. lower_bound_call a x) (λ e. lower_bound e x) h (λ e g. unfold lower_bound_call in reading_encode e [] _ g)
call_agree t (ask_key_at i n out) h =
    one_agree t i (λ a. key_at_call a n out) (λ e. key_at e n out) h (λ e g. unfold key_at_call in reading_encode e (out ∷ []) _ g)
call_agree t (ask_rank i o) h =
    one_agree t i (λ a. rank_call a o) (λ e. rank_at e o) h (λ e g. unfold rank_call in reading_encode e [] _ g)
call_agree t (ask_prefix i p x) h =
    one_agree t i (λ a. prefix_call a p x) (λ e. prefix e p x) h (λ e g. unfold prefix_call in reading_encode e [] _ g)

-- ---- What a step adds is valid, and its encodings are the fronts of the buffers
abbrev pub Kept : Step → Type 0
Kept s = AllValid s.added × (map encode s.added ≡ written_with s.outcome.answer s.outcome.buffers)

abbrev pub KeptIf : Option Step → Type 0
KeptIf none = Unit {0}
KeptIf (some s) = Kept s

tested_kept : (ts : Tests) (bufs : List Bytes) (done : Step) → (first_of ts ≡ none → Kept done) → Kept (tested ts bufs done)
unfolding tested
tested_kept ts bufs done f = go (first_of ts) f
  where
    go : (o : Option ℕ) → (o ≡ none → Kept done) → Kept (refused_or o bufs done)
    go none f = unfold refused_or in f refl
    go (some k) f = unfold refused_or refusal written_with in (tt, refl)

-- none of them too many, all of them fine
abbrev pub AllValidIf : List Entry → Type 0
AllValidIf [] = Unit {0}
AllValidIf (e ∷ t) = (edge_count e ≤ max_edges → Valid e) × AllValidIf t

all_valid : (es : List Entry) → AllValidIf es → any_of (λ (e : Entry). too_many_edges (edge_count e)) es ≡ false → AllValid es
unfolding any_of too_many_edges
all_valid [] h z = tt
all_valid (e ∷ es) h z =
    let r = neither (ltb max_edges (edge_count e)) (any_of (λ (e : Entry). too_many_edges (edge_count e)) es) z in
    (h.0 (no_lt max_edges (edge_count e) r.0), all_valid es h.1 r.1)

-- each encoding stands at the front of its buffer, and its length cuts it out again
fronts_are : (es : List Entry) (bufs : List Bytes) → fronts (map encode es) bufs ≡ Fronts es bufs
unfolding fronts
fronts_are [] bufs = refl
fronts_are (e ∷ es) [] = refl
fronts_are (e ∷ es) (out ∷ bufs) = ap (λ l. front (encode e) out ∷ l) (fronts_are es bufs)

cut_fronts : (es : List Entry) (bufs : List Bytes) → any_short (map encode es) bufs ≡ false
    → map encode es ≡ cut (map (λ (e : Entry). length (encode e)) es) (fronts (map encode es) bufs)
unfolding cut fronts any_short front
cut_fronts [] bufs h = refl
cut_fronts (e ∷ es) [] h = absurd (false≢true (sym h))
cut_fronts (e ∷ es) (buf ∷ bufs) h =
    let r = neither (ltb (length buf) (length (encode e))) (any_short (map encode es) bufs) h in
    rw (take-append_seam (encode e) (drop (length (encode e)) buf)) (ap (λ x. encode e ∷ x) (cut_fronts es bufs r.1))

pub writes_kept : (ts : Tests) (es : List Entry) (bufs : List Bytes) → (first_of ts ≡ none → AllValidIf es) → Kept (writes ts es bufs)
unfolding writes written_with
writes_kept ts es bufs f =
    tested_kept _ bufs _
    (λ z.
    let a = none_append ts _ z in
    let b = none_test (any_of (λ (e : Entry). too_many_edges (edge_count e)) es) _ _ a.1 in
    let c = none_test (any_short (map encode es) bufs) _ _ b.1 in
    (all_valid es (f a.0) b.0, cut_fronts es bufs c.0))

made_none : (a : Answer) → written_with a [] ≡ []
unfolding written_with cut
made_none (refused k) = refl
made_none (wrote []) = refl
made_none (wrote (n ∷ ns)) = refl
made_none (wrote_key n) = refl
made_none (index_is n) = refl
made_none (rank_is n) = refl
made_none (range_is i n) = refl
made_none is_present = refl
made_none is_absent = refl
made_none is_none = refl
made_none is_posted = refl
made_none (tells m n b) = refl

answers_kept : (ts : Tests) (a : Answer) → Kept (answers ts a)
unfolding answers
answers_kept ts a = tested_kept ts [] _ (λ z. (tt, sym (made_none a)))

key_kept : (ts : Tests) (t : ℕ) (k : Key) (out : Bytes) → Kept (writes_key ts t k out)
unfolding writes_key
key_kept ts t k out = tested_kept _ _ _ (λ z. unfold written_with in (tt, refl))

-- ---- The sets that pack, union, difference and split name have keys of their width only
same_length : (j k : Key) → same_key j k ≡ true → length j ≡ length k
unfolding same_key
same_length [] [] h = refl
same_length [] (b ∷ k) h = absurd (false≢true h)
same_length (a ∷ j) [] h = absurd (false≢true h)
same_length (a ∷ j) (b ∷ k) h = ap suc (same_length j k (both (same_bit a b) (same_key j k) h).1)

pub length_key : (m : ℕ) (x : Bytes) → length (key_in m x) ≡ m
unfolding key_in
length_key m x = length_bits_in x m

batch_sized : (m : ℕ) (l : List Bytes) (k : Key) → any_of (same_key k) (map (key_in m) l) ≡ true → length k ≡ m
unfolding any_of
batch_sized m [] k h = absurd (false≢true h)
batch_sized m (x ∷ l) k h = go (batch_sized m l k) (same_key k (key_in m x)) refl h
  where
    go : (any_of (same_key k) (map (key_in m) l) ≡ true → length k ≡ m)
        → (b : Bool) → same_key k (key_in m x) ≡ b → (b || any_of (same_key k) (map (key_in m) l)) ≡ true → length k ≡ m
    go rest true z h = same_length k (key_in m x) z ∙ length_key m x
    go rest false z h = rest h

pub pack_valid : (m : ℕ) (batch : Bytes) → wrong_width m ≡ false → edge_count (batch_entry m batch) ≤ max_edges → Valid (batch_entry m batch)
unfolding batch_entry set_of wrong_width
pack_valid m batch w q =
    let r = neither (ltb m 1) (ltb max_width m) w in
    record { positive = no_lt m 1 r.0; narrow = no_lt max_width m r.1; sized = λ k h. batch_sized m (batch_keys m batch) k h; few = q }

pack_kept : (m : ℕ) (batch out : Bytes) → Kept (pack m batch out)
unfolding pack pack_tests
pack_kept m batch out =
    writes_kept _ (batch_entry m batch ∷ []) (out ∷ []) (λ z. (pack_valid m batch (none_test (wrong_width m) _ _ z).0, tt))

-- what holds if either of two does
or_else : (a b : Bool) (P : Type 0) → (a ≡ true → P) → (b ≡ true → P) → (a || b) ≡ true → P
or_else true b P f g h = f refl
or_else false b P f g h = g h

pub joined_same : (e f : Entry) → first_of (join_tests e f) ≡ none → e.width ≡ f.width
unfolding join_tests
joined_same e f z = yes_eq e.width f.width (not_false (eqb e.width f.width) (none_test _ _ _ z).0)

valid_like : (e : Entry) (s : KeySet) → Valid e → ((k : Key) → s k ≡ true → length k ≡ e.width) → edge_count (with_set e s) ≤ max_edges → Valid (with_set e s)
unfolding with_set
valid_like e s g h q = record { positive = g.positive; narrow = g.narrow; sized = h; few = q }

pub union_valid : (e f : Entry) → Valid e → Valid f → first_of (join_tests e f) ≡ none → edge_count (union_entry e f) ≤ max_edges → Valid (union_entry e f)
unfolding either
union_valid e f g h z =
    valid_like e (either e.set f.set) g
    (λ k i. or_else (e.set k) (f.set k) (length k ≡ e.width) (g.sized k) (λ j. h.sized k j ∙ sym (joined_same e f z)) i)

-- a part of a set: those of its keys that a test takes
part_valid : (e : Entry) (p : KeySet) → Valid e → edge_count (with_set e (λ (k : Key). e.set k && p k)) ≤ max_edges → Valid (with_set e (λ (k : Key). e.set k && p k))
part_valid e p g = valid_like e (λ k. e.set k && p k) g (λ k i. g.sized k (both (e.set k) (p k) i).0)

pub difference_valid : (e f : Entry) → Valid e → edge_count (difference_entry e f) ≤ max_edges → Valid (difference_entry e f)
unfolding without
difference_valid e f = part_valid e (λ k. not (f.set k))

pub both_valid : (e f : Entry) → Valid e → edge_count (both_entry e f) ≤ max_edges → Valid (both_entry e f)
unfolding in_both
both_valid e f = part_valid e f.set

split_valid : (e f : Entry) → Valid e → Valid f → AllValidIf (both_entry e f ∷ difference_entry e f ∷ difference_entry f e ∷ [])
split_valid e f g h = (both_valid e f g, (difference_valid e f g, (difference_valid f e h, tt)))

union_kept : (e f : Entry) (out : Bytes) → Valid e → Valid f → Kept (union e f out)
unfolding union
union_kept e f out g h =
    writes_kept (join_tests e f) (union_entry e f ∷ []) (out ∷ []) (λ z. (union_valid e f g h z, tt))

difference_kept : (e f : Entry) (out : Bytes) → Valid e → Valid f → Kept (difference e f out)
unfolding difference
difference_kept e f out g h =
    writes_kept (join_tests e f) (difference_entry e f ∷ []) (out ∷ []) (λ z. (difference_valid e f g, tt))

split_kept : (e f : Entry) (x y z : Bytes) → Valid e → Valid f → Kept (split e f x y z)
unfolding split
split_kept e f x y z g h = writes_kept (join_tests e f) _ (x ∷ y ∷ z ∷ []) (λ i. split_valid e f g h)

at_place_kept : (t : List Entry) (i : ℕ) (q : Entry → Option Step) → AllValid t → ((e : Entry) → Valid e → KeptIf (q e)) → KeptIf (at_place t i q)
unfolding at_place
at_place_kept [] i q h f = tt
at_place_kept (e ∷ t) zero q h f = f e h.0
at_place_kept (e ∷ t) (suc i) q h f = at_place_kept t i q h.1 f

pub call_kept : (t : List Entry) (c : Call) → AllValid t → KeptIf (model_call t c)
unfolding model_call
call_kept t (do_pack m batch out) h = pack_kept m batch out
call_kept t (do_union i j out) h = at_place_kept t i _ h (λ e g. at_place_kept t j _ h (λ f k. union_kept e f out g k))
call_kept t (do_difference i j out) h = at_place_kept t i _ h (λ e g. at_place_kept t j _ h (λ f k. difference_kept e f out g k))
call_kept t (do_split i j x y z) h = at_place_kept t i _ h (λ e g. at_place_kept t j _ h (λ f k. split_kept e f x y z g k))
call_kept t (ask_contains i x) h = at_place_kept t i _ h (λ e g. unfold contains in answers_kept _ _)
call_kept t (ask_index_of i x) h = at_place_kept t i _ h (λ e g. unfold index_of in answers_kept _ _)
call_kept t (ask_lower_bound i x) h = at_place_kept t i _ h (λ e g. unfold lower_bound in answers_kept _ _)
call_kept t (ask_key_at i n out) h = at_place_kept t i _ h (λ e g. unfold key_at in key_kept _ _ _ out)
call_kept t (ask_rank i o) h = at_place_kept t i _ h (λ e g. unfold rank_at in answers_kept _ _)
call_kept t (ask_prefix i p x) h = at_place_kept t i _ h (λ e g. unfold prefix in answers_kept _ _)

-- ---- What is accepted is written
pub tested_only : {L : Type 0} (ts : Tests) (bufs : L) (done : StepOf L) → ((k : ℕ) → (tested ts bufs done).outcome.answer ≡ refused k → ⊥) → first_of ts ≡ none
unfolding tested
tested_only ts bufs done h = go (first_of ts) refl h
  where
    go : (o : Option ℕ) → first_of ts ≡ o → ((k : ℕ) → (refused_or o bufs done).outcome.answer ≡ refused k → ⊥) → first_of ts ≡ none
    go none z h = z
    go (some k) z h = unfold refused_or refusal in absurd (h k refl)

-- what fits has neither too many edges nor a buffer too short, and back
fit_few : (es : List Entry) (bufs : List Bytes) → Fit es bufs → any_of (λ (e : Entry). too_many_edges (edge_count e)) es ≡ false
unfolding any_of too_many_edges
fit_few [] bufs h = refl
fit_few (e ∷ es) [] h = absurd h
fit_few (e ∷ es) (out ∷ bufs) h = rw (lt_no max_edges (edge_count e) h.0.few) (fit_few es bufs h.2)

fit_long : (es : List Entry) (bufs : List Bytes) → Fit es bufs → any_short (map encode es) bufs ≡ false
unfolding any_short
fit_long [] bufs h = refl
fit_long (e ∷ es) [] h = absurd h
fit_long (e ∷ es) (out ∷ bufs) h = rw (lt_no (length out) (length (encode e)) h.1) (fit_long es bufs h.2)

long_fit : (es : List Entry) (bufs : List Bytes) → AllValid es → any_short (map encode es) bufs ≡ false → Fit es bufs
unfolding any_short
long_fit [] bufs h z = tt
long_fit (e ∷ es) [] h z = absurd (false≢true (sym z))
long_fit (e ∷ es) (out ∷ bufs) h z =
    let r = neither (ltb (length out) (length (encode e))) (any_short (map encode es) bufs) z in
    (h.0, no_lt (length out) (length (encode e)) r.0, long_fit es bufs h.1 r.1)

writes_several : (ts : Tests) (es : List Entry) (bufs : List Bytes) → (first_of ts ≡ none → AllValidIf es) → Writes ts es bufs (writes ts es bufs).outcome
unfolding writes tested
writes_several ts es bufs f =
    record {
      turned = λ k z. rw z (unfold refused_or refusal in refl);
      accepted = λ z v. rw (none_first ts _ z, fit_few es bufs v, fit_long es bufs v) (unfold first_of test refused_or in ap (λ l. writing_all (wrote (map (λ (e : Entry). length (encode e)) es)) l) (fronts_are es bufs));
      only = λ h.
          let a = none_append ts _ (tested_only _ bufs _ h) in
          let b = none_test _ _ _ a.1 in
          let c = none_test _ _ _ b.1 in
          (a.0, long_fit es bufs (all_valid es (f a.0) b.0) c.0);
    }

pub pack_writes : (m : ℕ) (batch out : Bytes) → Writes (pack_tests m batch) (batch_entry m batch ∷ []) (out ∷ []) (pack_call m batch out)
unfolding pack_call pack pack_tests
pack_writes m batch out = writes_several (pack_tests m batch) _ (out ∷ []) (λ z. (pack_valid m batch (none_test (wrong_width m) _ _ z).0, tt))

pub union_writes : (e f : Entry) (out : Bytes) → Valid e → Valid f → Writes (join_tests e f) (union_entry e f ∷ []) (out ∷ []) (union_call (encode e) (encode f) out)
unfolding union_call union
union_writes e f out g h =
    rw (reading_encode e (out ∷ []) _ g, reading_encode f (out ∷ []) _ h) (writes_several (join_tests e f) _ (out ∷ []) (λ z. (union_valid e f g h z, tt)))

pub difference_writes : (e f : Entry) (out : Bytes) → Valid e → Valid f → Writes (join_tests e f) (difference_entry e f ∷ []) (out ∷ []) (difference_call (encode e) (encode f) out)
unfolding difference_call difference
difference_writes e f out g h =
    rw (reading_encode e (out ∷ []) _ g, reading_encode f (out ∷ []) _ h) (writes_several (join_tests e f) _ (out ∷ []) (λ z. (difference_valid e f g, tt)))

pub split_writes : (e f : Entry) (x y z : Bytes) → Valid e → Valid f
    → Writes (join_tests e f) (both_entry e f ∷ difference_entry e f ∷ difference_entry f e ∷ []) (x ∷ y ∷ z ∷ []) (split_call (encode e) (encode f) x y z)
unfolding split_call split
split_writes e f x y z g h =
    rw (reading_encode e (x ∷ y ∷ z ∷ []) _ g, reading_encode f (x ∷ y ∷ z ∷ []) _ h) (writes_several (join_tests e f) _ (x ∷ y ∷ z ∷ []) (λ i. split_valid e f g h))

-- ---- The whole list
kept_encodes : (o : Option Step) → KeptIf o → written_by (outcome_of o) ≡ map encode (added_by o)
unfolding written_by outcome_of added_by
kept_encodes none h = refl
kept_encodes (some s) h = sym h.1

kept_valid : (o : Option Step) → KeptIf o → AllValid (added_by o)
unfolding added_by
kept_valid none h = tt
kept_valid (some s) h = h.0

-- one call: the same outcome, and the store is again the encodings of the model
store_step : (t : List Entry) (c : Call) → AllValid t → map encode t ++ written_by (store_call (map encode t) c) ≡ map encode (t ++ added_by (model_call t c))
store_step t c h = rw (call_agree t c h, kept_encodes (model_call t c) (call_kept t c h)) (sym (map-append encode t (added_by (model_call t c))))

step_valid : (t : List Entry) (c : Call) → AllValid t → AllValid (t ++ added_by (model_call t c))
step_valid t c h = valid_append t (added_by (model_call t c)) h (kept_valid (model_call t c) (call_kept t c h))

pub says_agree : (h : List Call) (t : List Entry) → AllValid t → store_says (map encode t) h ≡ model_says t h
unfolding store_says model_says
says_agree [] t f = refl
says_agree (c ∷ h) t f =
    ap₂ ◌∷◌ (call_agree t c f) (ap (λ s. store_says s h) (store_step t c f) ∙ says_agree h (t ++ added_by (model_call t c)) (step_valid t c f))

pub store_agree : (h : List Call) (t : List Entry) → AllValid t → store_from (map encode t) h ≡ map encode (model_from t h)
unfolding store_from model_from
store_agree [] t f = refl
store_agree (c ∷ h) t f = ap (λ s. store_from s h) (store_step t c f) ∙ store_agree h (t ++ added_by (model_call t c)) (step_valid t c f)

pub model_valid : (h : List Call) (t : List Entry) → AllValid t → AllValid (model_from t h)
unfolding model_from
model_valid [] t f = f
model_valid (c ∷ h) t f = model_valid h (t ++ added_by (model_call t c)) (step_valid t c f)

pub store_encodes : (h : List Call) → store_after h ≡ map encode (model_after h)
unfolding store_after model_after
store_encodes h = store_agree h [] tt

pub after_valid : (h : List Call) → AllValid (model_after h)
unfolding model_after
after_valid h = model_valid h [] tt

-- ---- Two encodings are equal exactly when their entries are the same
-- valid entries of the same width and the same keys are one entry
same_set : (e f : Entry) → Valid e → Valid f → SameEntry e f → (k : Key) → e.set k ≡ f.set k
same_set e f g h z k = go (e.set k) (f.set k) refl refl
  where
    go : (a b : Bool) → e.set k ≡ a → f.set k ≡ b → e.set k ≡ f.set k
    go true b p q = z.1 k (g.sized k p)
    go false true p q = z.1 k (h.sized k q ∙ sym z.0)
    go false false p q = p ∙ sym q

pub same_entry : (e f : Entry) → Valid e → Valid f → SameEntry e f → e ≡ f
same_entry e f g h z = ap₂ (λ (m : ℕ) (s : KeySet). record { width = m; set = s }) z.0 (fun_ext (same_set e f g h z))

pub encodings_equal : (e f : Entry) → Valid e → Valid f → (encode e ≡ encode f) ↔ SameEntry e f
encodings_equal e f g h = (
  λ z.
      let q : e ≡ f = opened_inj e f (sym (read_encode e g) ∙ ap read z ∙ read_encode f h) in
      (ap (λ (x : Entry). x.width) q, λ k l. ap (λ (x : Entry). x.set k) q),
  λ z. ap encode (same_entry e f g h z),
)

count_agree : (h : List Call) → length (model_after h) ≡ length (store_after h)
count_agree h = rw (store_encodes h) (sym (length-map (model_after h) encode))

pub encodings_agree : (h : List Call) (i : ℕ) → i < length (store_after h) → get_or (store_after h) i [] ≡ encode (get_or (model_after h) i no_entry)
encodings_agree h i l =
    let q : i < length (model_after h) = omega (arith, count_agree h) in
    ap (λ (s : List Bytes). get_or s i []) (store_encodes h) ∙ get_d_map_in encode (model_after h) i no_entry [] q

pub entry_valid : (h : List Call) (i : ℕ) → i < length (store_after h) → Valid (get_or (model_after h) i no_entry)
entry_valid h i l = valid_at (model_after h) i (after_valid h) (omega (arith, count_agree h))

between : (g h : List Call) (i j : ℕ) → i < length (store_after g) → j < length (store_after h)
    → (get_or (store_after g) i [] ≡ get_or (store_after h) j []) ↔ SameEntry (get_or (model_after g) i no_entry) (get_or (model_after h) j no_entry)
between g h i j p q =
    let r = encodings_equal (get_or (model_after g) i no_entry) (get_or (model_after h) j no_entry) (entry_valid g i p) (entry_valid h j q) in
    (λ z. r.0 (sym (encodings_agree g i p) ∙ z ∙ encodings_agree h j q), λ z. encodings_agree g i p ∙ r.1 z ∙ sym (encodings_agree h j q))

pub histories_agree : HistoriesAgree
histories_agree =
    record {
      one = λ h. record { outcomes = says_agree h [] tt; encodings = store_encodes h };
      two = λ g h. record { equal = between g h };
    }
