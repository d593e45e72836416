-- The demands hold.
use mathlib.Core.Path.{◌≡◌, refl}
use Prim.Native.Nat.{ℕ, zero, suc, ◌<◌, ◌≤◌}
use mathlib.Core.Bool.{true, cond}
use mathlib.Core.List.{[], ◌∷◌}
use mathlib.Core.Option.{none, some}
use native.Mathlib.Omega.{arith}
use lib.ListN.{length, get_or}
use Rattle.loes.specs.Bytes.{Bytes, pack_bits, front}
use Rattle.loes.specs.Keys.{Key, KeySet, members, smaller}
use Rattle.loes.specs.Edges.{rank, edge_index}
use Rattle.loes.specs.Entry.{Entry, key_bytes, keys_of, count, edges_of, edge_count, Valid}
use Rattle.loes.specs.Encode.{encode}
use Rattle.loes.specs.Refusals.{out_of_range, test, first_of}
use Rattle.loes.specs.Read.{read_tests, rejected, reading_of, read}
use Rattle.loes.specs.Model as model
use Rattle.loes.specs.Model.{refused, wrote_key, tells, is_present, is_absent, index_is, rank_is, range_is, saying, writing, refused_or, refusal, tested, answers, writes_key, key_in, key_test, below_test, at_most_test, opens, count_before, count_under, prefix_tests}
use Rattle.loes.specs.Calls.{after_reading, reading, union_call, difference_call, split_call, open_call, contains_call, index_of_call, key_at_call, rank_call, lower_bound_call, prefix_call}
use Rattle.loes.specs.Cursor.{after, Cursor, no_offsets, next_index, goes_to_after, advance, advance_reading, advance_call}
use Rattle.loes.specs.Demands.{Refuses, AnswersAgree, Demands}
use Rattle.loes.proofs.Tests.{lt_yes, lt_no}
use Rattle.loes.proofs.Reading.{read_encode, reads_exactly}
use Rattle.loes.proofs.Navigation.{present_is, index_is_lem}
use Rattle.loes.proofs.Members.{smaller_at, inside_at}
use Rattle.loes.proofs.Order.{bound_index, bound_none}
use Rattle.loes.proofs.Splits.{one_of_three, split_counts, no_longer, split_itself}
use Rattle.loes.proofs.Ranges.{member_range, range_all, range_key, under_halves}
use Rattle.loes.proofs.Kept.{refusals_keep}
use Rattle.loes.proofs.Histories.{reading_encode, pack_writes, union_writes, difference_writes, split_writes, histories_agree}
use Rattle.loes.proofs.Cursors.{right_none}
use Rattle.loes.proofs.Walk.{went, whole_walk}

open_encode : (e : Entry) → Valid e → open_call (encode e) ≡ saying (tells e.width (count e) (edge_count e))
unfolding open_call opens answers tested refused_or first_of
open_encode e f = reading_encode e [] _ f

step_encode : (e : Entry) (c : Cursor) (out : Bytes) → Valid e → advance_call (encode e) c out ≡ advance e c out
unfolding advance_call advance_reading
step_encode e c out f = rw (read_encode e f)

-- bytes that are not read are refused by every call
refuses : (l : Bytes) (k : ℕ) → first_of (read_tests l) ≡ some k → Refuses l k
unfolding read reading_of open_call contains_call index_of_call lower_bound_call rank_call prefix_call key_at_call union_call difference_call split_call reading after_reading refusal advance_call advance_reading
refuses l k z =
    let h : read l ≡ rejected k = rw z in
    record {
      opening = rw h;
      contains = λ x. rw h;
      index_of = λ x. rw h;
      lower_bound = λ x. rw h;
      rank = λ o. rw h;
      prefix = λ p x. rw h;
      key_at = λ i out. rw h;
      step = λ c out. rw h;
      first = λ b out. (rw h, rw h);
      second = λ e out f. (rw (read_encode e f, h), rw (read_encode e f, h));
      first_split = λ b x y z. rw h;
      second_split = λ e x y z f. rw (read_encode e f, h);
    }

-- what the model says of what is not refused
says_member : (e : Entry) (x : Bytes) → key_test e.width x ≡ none → (model.contains e x).outcome.answer ≡ cond (e.set (key_in e.width x)) is_present is_absent
unfolding model.contains answers tested refused_or first_of
says_member e x h = rw h

says_index : (e : Entry) (x : Bytes) → key_test e.width x ≡ none
    → (model.index_of e x).outcome.answer ≡ cond (e.set (key_in e.width x)) (index_is (smaller (key_in e.width x) (keys_of e))) is_absent
unfolding model.index_of answers tested refused_or first_of
says_index e x h = rw h

says_key : (e : Entry) (i : ℕ) (out : Bytes) → i < count e → key_bytes e.width ≤ length out
    → (model.key_at e i out).outcome ≡ writing (wrote_key (key_bytes e.width)) (front (pack_bits (get_or (keys_of e) i [])) out)
unfolding model.key_at writes_key below_test tested
says_key e i out h r = rw (lt_yes i (count e) h, lt_no (length out) (key_bytes e.width) r) (unfold first_of test refused_or in refl)

says_rank : (e : Entry) (o : ℕ) → o ≤ edge_count e → (model.rank_at e o).outcome.answer ≡ rank_is (rank (edges_of e) o)
unfolding model.rank_at answers at_most_test tested
says_rank e o h = rw (lt_no (edge_count e) o h) (unfold first_of test refused_or in refl)

says_prefix : (e : Entry) (p : ℕ) (x : Bytes) → p ≤ e.width → key_test p x ≡ none
    → (model.prefix e p x).outcome.answer ≡ range_is (count_before e (key_in p x)) (count_under e (key_in p x))
unfolding model.prefix prefix_tests answers at_most_test tested
says_prefix e p x h k = rw (lt_no e.width p h, k) (unfold first_of test refused_or in refl)

long_prefix : (e : Entry) (p : ℕ) (x : Bytes) → e.width < p → (model.prefix e p x).outcome ≡ saying (refused out_of_range)
unfolding model.prefix prefix_tests answers at_most_test tested
long_prefix e p x h = rw (lt_yes e.width p h) (unfold first_of test refused_or refusal in refl)

after_stays : (e : Entry) (out : Bytes) → advance e (no_offsets after) out ≡ goes_to_after out
unfolding next_index
after_stays e out = went e (no_offsets after) out (right_none e).1 (omega arith)

index_positive : (k : Key) (m : ℕ) (s : KeySet) → length k ≡ m → 0 < m → s k ≡ true → edge_index m s k ≡ smaller k (members m s)
index_positive k zero s l p h = absurd (omega arith)
index_positive k (suc m) s l p h = index_is_lem k m s l h

pub answers_agree : AnswersAgree
unfolding contains_call index_of_call lower_bound_call rank_call prefix_call key_at_call
answers_agree =
    record {
      reads = reads_exactly;
      damaged = refuses;
      pack = pack_writes;
      union = union_writes;
      difference = difference_writes;
      split = split_writes;
      one_of_three = one_of_three;
      counts = split_counts;
      no_longer = no_longer;
      itself = split_itself;
      opening = open_encode;
      contains = λ e x f. reading_encode e [] _ f;
      index_of = λ e x f. reading_encode e [] _ f;
      lower_bound = λ e x f. reading_encode e [] _ f;
      rank = λ e o f. reading_encode e [] _ f;
      prefix = λ e p x f. reading_encode e [] _ f;
      key_at = λ e i out f. reading_encode e (out ∷ []) _ f;
      step = step_encode;
      says_member = says_member;
      says_index = says_index;
      says_key = says_key;
      says_rank = says_rank;
      says_prefix = says_prefix;
      long_prefix = long_prefix;
      after_stays = after_stays;
      presence = present_is;
      index = index_positive;
      place = λ e i h. ((inside_at e i h).0, (inside_at e i h).1, smaller_at e i h);
      bound = bound_index;
      no_bound = bound_none;
      range = member_range;
      no_bits = range_all;
      whole_key = range_key;
      halves = under_halves;
      whole_walk = whole_walk;
    }

pub demands : Demands
demands = record { refusals = refusals_keep; answers = answers_agree; histories = histories_agree }
