-- No call is refused with 0: each test has one of the numbers 1 to 17.
use Prim.Native.Nat.{ℕ, ◌<◌}
use mathlib.Core.Bool.{Bool, true, false, cond}
use mathlib.Core.List.{List, [], ◌∷◌, ◌++◌, flatten}
use mathlib.Core.Option.{Option, none, some}
use native.Mathlib.Omega.{arith}
use lib.IntN.{ℤ}
use lib.Dec.{eqb}
use Rattle.loes.specs.Bytes.{Bytes}
use Rattle.loes.specs.Keys.{Key, smaller}
use Rattle.loes.specs.Entry.{Entry, keys_of, count}
use Rattle.loes.specs.Refusals.{Tests, test, first_of}
use Rattle.loes.specs.Read.{field_tests, head_tests, tail_tests, read_tests, reading_of, read, entry_in}
use Rattle.loes.specs.Model.{Answer, is_present, is_absent, is_none, index_is, rank_is, range_is, is_posted, OutcomeOf, StepOf, refusal, refused_or, tested, answers, writes, writes_key, key_in, key_test, below_test, at_most_test, batch_keys, rising_tests, pack_tests, pack, join_tests, union, difference, split, opens, contains, index_of, key_at, rank_at, lower_bound, prefix_tests, prefix}
use Rattle.loes.specs.Calls.{after_reading, reading, open_call, pack_call, union_call, difference_call, split_call, contains_call, index_of_call, lower_bound_call, key_at_call, rank_call, prefix_call}
use Rattle.loes.specs.Cursor.{Cursor, stays, goes_to, goes_to_after, stays_or, has_next, next_key, advance_tests, advance, advance_reading, advance_call}
use Rattle.weights.specs.Weights.{Weights, outputs, WeightedOutcome, leaving, checked, list_test, sum_test, writes_with, post, pack_weighted_call, post_call, union_weighted, union_weighted_call, difference_weighted, difference_weighted_call}
use Rattle.capi.specs.Coded.{Positive, ZeroIsNoRefusal}

-- ---- Tests
abbrev Numbered : Option ℕ → Type 0
Numbered none = Unit {0}
Numbered (some k) = 0 < k

abbrev AllNumbered : Tests → Type 0
AllNumbered [] = Unit {0}
AllNumbered (t ∷ ts) = Numbered t × AllNumbered ts

first_numbered : (ts : Tests) → AllNumbered ts → Numbered (first_of ts)
unfolding first_of
first_numbered [] a = tt
first_numbered (none ∷ ts) a = first_numbered ts a.1
first_numbered (some k ∷ ts) a = a.0

test_numbered : (b : Bool) (k : ℕ) → 0 < k → Numbered (test b k)
unfolding test
test_numbered true k h = h
test_numbered false k h = tt

append_numbered : (a b : Tests) → AllNumbered a → AllNumbered b → AllNumbered (a ++ b)
append_numbered [] b p q = q
append_numbered (t ∷ a) b p q = (p.0, append_numbered a b p.1 q)

abbrev EachNumbered : List Tests → Type 0
EachNumbered [] = Unit {0}
EachNumbered (a ∷ parts) = AllNumbered a × EachNumbered parts

flatten_numbered : (parts : List Tests) → EachNumbered parts → AllNumbered (flatten parts)
unfolding flatten
flatten_numbered [] p = tt
flatten_numbered (a ∷ parts) p = append_numbered a (flatten parts) p.0 (flatten_numbered parts p.1)

field_numbered : (tag n : ℕ) (l : Bytes) (at : ℕ) → AllNumbered (field_tests tag n l at)
unfolding field_tests
field_numbered tag n l at = (test_numbered _ 1 (omega arith), (test_numbered _ 2 (omega arith), (test_numbered _ 3 (omega arith), (test_numbered _ 1 (omega arith), tt))))

one_numbered : (b : Bool) (k : ℕ) → 0 < k → AllNumbered (test b k ∷ [])
one_numbered b k h = (test_numbered b k h, tt)

head_numbered : (l : Bytes) → AllNumbered (head_tests l)
unfolding head_tests
head_numbered l = flatten_numbered _ (field_numbered _ _ l _, (one_numbered _ 4 (omega arith), (field_numbered _ _ l _, (field_numbered _ _ l _, (one_numbered _ 5 (omega arith), tt)))))

tail_numbered : (m b : ℕ) (l : Bytes) → AllNumbered (tail_tests m b l)
unfolding tail_tests
tail_numbered m b l = flatten_numbered _ (field_numbered _ _ l _, (field_numbered _ _ l _, (field_numbered _ _ l _, (one_numbered _ 6 (omega arith), tt))))

read_numbered : (l : Bytes) → AllNumbered (read_tests l)
unfolding read_tests
read_numbered l = flatten_numbered _ (head_numbered l, (tail_numbered _ _ l, (one_numbered _ 7 (omega arith), tt)))

-- ---- Answers by tests
cond_positive : (b : Bool) (x y : Answer) → Positive x → Positive y → Positive (cond b x y)
cond_positive true x y p q = p
cond_positive false x y p q = q

tested_positive : {L : Type 0} (ts : Tests) (bufs : L) (done : StepOf L) → AllNumbered ts → Positive done.outcome.answer → Positive (tested ts bufs done).outcome.answer
unfolding tested
tested_positive ts bufs done a p = go (first_of ts) (first_numbered ts a)
  where
    go : (x : Option ℕ) → Numbered x → Positive (refused_or x bufs done).outcome.answer
    go none h = unfold refused_or in p
    go (some k) h = unfold refused_or refusal in h

answers_positive : (ts : Tests) (a : Answer) → AllNumbered ts → Positive a → Positive (answers ts a).outcome.answer
unfolding answers
answers_positive ts a h p = tested_positive ts [] _ h p

writes_positive : (ts : Tests) (es : List Entry) (bufs : List Bytes) → AllNumbered ts → Positive (writes ts es bufs).outcome.answer
unfolding writes
writes_positive ts es bufs a = tested_positive _ bufs _ (append_numbered ts _ a (test_numbered _ 5 (omega arith), (test_numbered _ 14 (omega arith), tt))) tt

reading_positive : {L : Type 0} (l : Bytes) (bufs : L) (next : Entry → OutcomeOf L) → ((e : Entry) → Positive (next e).answer) → Positive (reading l bufs next).answer
unfolding reading read
reading_positive l bufs next p = go (first_of (read_tests l)) (first_numbered (read_tests l) (read_numbered l))
  where
    go : (x : Option ℕ) → Numbered x → Positive (after_reading (reading_of x (entry_in l)) bufs next).answer
    go none h = unfold reading_of after_reading in p (entry_in l)
    go (some k) h = unfold reading_of after_reading refusal in h

-- ---- The calls
rising_numbered : (m : ℕ) (before : Key) (l : List Bytes) → AllNumbered (rising_tests m before l)
unfolding rising_tests
rising_numbered m before [] = tt
rising_numbered m before (x ∷ l) = (test_numbered _ 11 (omega arith), (test_numbered _ 12 (omega arith), rising_numbered m (key_in m x) l))

pack_numbered : (m : ℕ) (batch : Bytes) → AllNumbered (pack_tests m batch)
unfolding pack_tests
pack_numbered m batch = (test_numbered _ 4 (omega arith), (test_numbered _ 10 (omega arith), rising_numbered m [] (batch_keys m batch)))

join_tests_lem : (e f : Entry) → AllNumbered (join_tests e f)
unfolding join_tests
join_tests_lem e f = (test_numbered _ 13 (omega arith), tt)

key_numbered : (m : ℕ) (x : Bytes) → Numbered (key_test m x)
unfolding key_test
key_numbered m x = test_numbered _ 8 (omega arith)

below_numbered : (i n : ℕ) → Numbered (below_test i n)
unfolding below_test
below_numbered i n = test_numbered _ 9 (omega arith)

at_most_numbered : (i n : ℕ) → Numbered (at_most_test i n)
unfolding at_most_test
at_most_numbered i n = test_numbered _ 9 (omega arith)

advance_positive : (e : Entry) (c : Cursor) (out : Bytes) → Positive (advance e c out).answer
unfolding advance advance_tests
advance_positive e c out = go (first_of (advance_tests e c out)) (first_numbered (advance_tests e c out) (test_numbered _ 15 (omega arith), (test_numbered _ 14 (omega arith), tt)))
  where
    done : (b : Bool) → Positive (cond b (goes_to e (next_key e c) out) (goes_to_after out)).answer
    done true = unfold goes_to in tt
    done false = unfold goes_to_after in tt

    go : (x : Option ℕ) → Numbered x → Positive (stays_or x c out (cond (has_next e c) (goes_to e (next_key e c) out) (goes_to_after out))).answer
    go none h = unfold stays_or in done (has_next e c)
    go (some k) h = unfold stays_or stays in h

open_positive : (l : Bytes) → Positive (open_call l).answer
unfolding open_call opens answers tested refused_or first_of
open_positive l = reading_positive l [] _ (λ e. tt)

pack_positive : (m : ℕ) (batch out : Bytes) → Positive (pack_call m batch out).answer
unfolding pack_call pack
pack_positive m batch out = writes_positive _ _ _ (pack_numbered m batch)

union_positive : (a b out : Bytes) → Positive (union_call a b out).answer
unfolding union_call union
union_positive a b out = reading_positive a _ _ (λ e. reading_positive b _ _ (λ f. writes_positive _ _ _ (join_tests_lem e f)))

difference_positive : (a b out : Bytes) → Positive (difference_call a b out).answer
unfolding difference_call difference
difference_positive a b out = reading_positive a _ _ (λ e. reading_positive b _ _ (λ f. writes_positive _ _ _ (join_tests_lem e f)))

split_positive : (a b x y z : Bytes) → Positive (split_call a b x y z).answer
unfolding split_call split
split_positive a b x y z = reading_positive a _ _ (λ e. reading_positive b _ _ (λ f. writes_positive _ _ _ (join_tests_lem e f)))

contains_positive : (l x : Bytes) → Positive (contains_call l x).answer
unfolding contains_call contains
contains_positive l x = reading_positive l _ _ (λ e. answers_positive _ _ (key_numbered e.width x, tt) (cond_positive (e.set (key_in e.width x)) is_present is_absent tt tt))

index_positive : (l x : Bytes) → Positive (index_of_call l x).answer
unfolding index_of_call index_of
index_positive l x = reading_positive l _ _ (λ e.
    let k = key_in e.width x in
    answers_positive _ _ (key_numbered e.width x, tt) (cond_positive (e.set k) (index_is (smaller k (keys_of e))) is_absent tt tt))

bound_positive : (l x : Bytes) → Positive (lower_bound_call l x).answer
unfolding lower_bound_call lower_bound
bound_positive l x = reading_positive l _ _ (λ e.
    let n = smaller (key_in e.width x) (keys_of e) in
    answers_positive _ _ (key_numbered e.width x, tt) (cond_positive (eqb n (count e)) is_none (index_is n) tt tt))

key_positive : (l : Bytes) (i : ℕ) (out : Bytes) → Positive (key_at_call l i out).answer
unfolding key_at_call key_at writes_key
key_positive l i out = reading_positive l _ _ (λ e. tested_positive _ _ _ (below_numbered i _, (test_numbered _ 14 (omega arith), tt)) tt)

rank_positive : (l : Bytes) (o : ℕ) → Positive (rank_call l o).answer
unfolding rank_call rank_at
rank_positive l o = reading_positive l _ _ (λ e. answers_positive _ (rank_is _) (at_most_numbered o _, tt) tt)

prefix_positive : (l : Bytes) (p : ℕ) (x : Bytes) → Positive (prefix_call l p x).answer
unfolding prefix_call prefix prefix_tests
prefix_positive l p x = reading_positive l _ _ (λ e. answers_positive _ (range_is _ _) (at_most_numbered p _, (key_numbered p x, tt)) tt)

step_positive : (l : Bytes) (c : Cursor) (out : Bytes) → Positive (advance_call l c out).answer
unfolding advance_call read
step_positive l c out = go (first_of (read_tests l)) (first_numbered (read_tests l) (read_numbered l))
  where
    go : (x : Option ℕ) → Numbered x → Positive (advance_reading (reading_of x (entry_in l)) c out).answer
    go none h = unfold reading_of advance_reading in advance_positive (entry_in l) c out
    go (some k) h = unfold reading_of advance_reading stays in h

-- ---- With weights
list_numbered : (e : Entry) (ws : Weights) → Numbered (list_test e ws)
unfolding list_test
list_numbered e ws = test_numbered _ 16 (omega arith)

checked_positive : (ts : Tests) (bufs : List Bytes) (ws : Weights) (done : WeightedOutcome) → AllNumbered ts → Positive done.answer → Positive (checked ts bufs ws done).answer
unfolding checked
checked_positive ts bufs ws done a p = tested_positive ts (outputs bufs ws) _ a p

both_positive : (ts last : Tests) (e : Entry) (l : Weights) (out : Bytes) (ws : Weights) → AllNumbered ts → AllNumbered last → Positive (writes_with ts last e l out ws).answer
unfolding writes_with
both_positive ts last e l out ws a b =
    checked_positive _ (out ∷ []) ws _ (append_numbered ts _ a (test_numbered _ 5 (omega arith), (test_numbered _ 14 (omega arith), b))) tt

posted_positive : (b : Bool) (u v : Weights) → Positive (cond b (leaving is_posted [] u) (leaving is_absent [] v)).answer
posted_positive true u v = tt
posted_positive false u v = tt

post_positive : (l : Bytes) (ws : Weights) (x : Bytes) (amount : ℤ) → Positive (post_call l ws x amount).answer
unfolding post_call post
post_positive l ws x amount =
    reading_positive l _ _ (λ e.
    checked_positive _ [] ws _ (list_numbered e ws, (key_numbered e.width x, (test_numbered _ 17 (omega arith), tt))) (posted_positive (e.set (key_in e.width x)) _ ws))

pack_weighted_positive : (m : ℕ) (batch out : Bytes) (ws : Weights) → Positive (pack_weighted_call m batch out ws).answer
unfolding pack_weighted_call
pack_weighted_positive m batch out ws = both_positive _ [] _ _ out ws (pack_numbered m batch) tt

union_weighted_positive : (a : Bytes) (wa : Weights) (b : Bytes) (wb : Weights) (out : Bytes) (ws : Weights) → Positive (union_weighted_call a wa b wb out ws).answer
unfolding union_weighted_call union_weighted sum_test
union_weighted_positive a wa b wb out ws =
    reading_positive a _ _ (λ e. reading_positive b _ _ (λ f.
    both_positive _ _ _ _ out ws (append_numbered (join_tests e f) _ (join_tests_lem e f) (list_numbered e wa, (list_numbered f wb, tt))) (test_numbered _ 17 (omega arith), tt)))

difference_weighted_positive : (a : Bytes) (wa : Weights) (b out : Bytes) (ws : Weights) → Positive (difference_weighted_call a wa b out ws).answer
unfolding difference_weighted_call difference_weighted
difference_weighted_positive a wa b out ws =
    reading_positive a _ _ (λ e. reading_positive b _ _ (λ f.
    both_positive _ [] _ _ out ws (append_numbered (join_tests e f) _ (join_tests_lem e f) (list_numbered e wa, tt)) tt))

pub zero_is_no_refusal : ZeroIsNoRefusal
zero_is_no_refusal =
    record {
      opening = open_positive;
      pack = pack_positive;
      union = union_positive;
      difference = difference_positive;
      split = split_positive;
      contains = contains_positive;
      index_of = index_positive;
      lower_bound = bound_positive;
      key_at = key_positive;
      rank = rank_positive;
      prefix = prefix_positive;
      advance = step_positive;
      post = post_positive;
      pack_weighted = pack_weighted_positive;
      union_weighted = union_weighted_positive;
      difference_weighted = difference_weighted_positive;
    }
