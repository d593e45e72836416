-- Weighted histories: one list of calls, run by a store of encodings with their lists (document 02, slip 1: the shelf), and by accounts that know nothing of the store.
use Rattle.std.specs.Prelude.{ℕ, Bool, true, false, ◌&&◌, cond, List, [], ◌∷◌, ◌++◌, map, ℤ, ◌+ℤ◌, take, get_or, set}
use mathlib.Core.Option.{Option, none, some}
use Rattle.loes.specs.Bytes.{Bytes}
use Rattle.loes.specs.Keys.{Key, those, same_key}
use Rattle.loes.specs.Entry.{Entry, keys_of, count}
use Rattle.loes.specs.Encode.{encode}
use Rattle.loes.specs.Refusals.{overflow, Tests, test}
use Rattle.loes.specs.Read.{Reading, rejected, opened, read}
use Rattle.loes.specs.Model.{Answer, refused, wrote, wrote_key, tells, is_present, is_absent, is_none, is_posted, index_is, rank_is, range_is, key_in, key_test, pack_tests, batch_entry, join_tests, union_entry, difference_entry}
use Rattle.loes.specs.History.{at_place, written_with}
use Rattle.weights.specs.Weights.{Weights, no_weight, total, outside, listed, WeightedOutcome, leaving, checked, writes_with, sum_of, sum_test, pack_weighted_call, post_call, union_weighted_call, difference_weighted_call}

-- A call as a weighted history has it: encodings, with their lists, by places in the store; its own output buffer and output list come last.
pub data Call : Type 0 where
  -- a width and a batch
  do_pack : ℕ → Bytes → Bytes → Weights → Call
  -- a place, a key and an amount
  do_post : ℕ → Bytes → ℤ → Call
  -- two places
  do_union : ℕ → ℕ → Bytes → Weights → Call
  do_difference : ℕ → ℕ → Bytes → Weights → Call

-- ---- Accounts: what is written down of a set from the calls alone, in whole numbers
pub record Account : Type 0 where
  -- the set
  pub entry : Entry
  -- what each key holds
  pub held : Key → ℤ
  -- all that was posted on the way to it
  pub posted : ℤ
  -- all that keys held when a difference dropped them on that way
  pub dropped : ℤ

-- packed: nothing held, nothing posted, nothing dropped
unfoldable pub batch_account : ℕ → Bytes → Account
batch_account m batch = record { entry = batch_entry m batch; held = λ k. no_weight; posted = no_weight; dropped = no_weight }

-- an amount posted to a key
unfoldable pub posted_account : Account → Key → ℤ → Account
posted_account a k amount =
    record {
      entry = a.entry;
      held = λ j. cond (same_key j k) (a.held j +ℤ amount) (a.held j);
      posted = a.posted +ℤ amount;
      dropped = a.dropped;
    }

-- of two: the sums of what was held, posted and dropped; an account used twice counts at each use
unfoldable pub union_account : Account → Account → Account
union_account a b =
    record {
      entry = union_entry a.entry b.entry;
      held = sum_of a.held b.held;
      posted = a.posted +ℤ b.posted;
      dropped = a.dropped +ℤ b.dropped;
    }

-- less the keys of an entry: what they hold at this moment is dropped
unfoldable pub difference_account : Account → Entry → Account
difference_account a f =
    record {
      entry = difference_entry a.entry f;
      held = λ k. cond (f.set k) no_weight (a.held k);
      posted = a.posted;
      dropped = a.dropped +ℤ total (map a.held (those f.set (keys_of a.entry)));
    }

-- its list: what its keys hold, in order
unfoldable pub list_of : Account → Weights
list_of a = listed a.entry a.held

-- ---- The model: accounts, one for each place; it never looks at the store
-- a step: its outcome, and the accounts after it
pub record AccountStep : Type 0 where
  pub outcome : WeightedOutcome
  pub accounts : List Account

-- whether an answer says that an encoding was written or an amount posted
unfoldable pub changes : Answer → Bool
changes (refused k) = false
changes (wrote ns) = true
changes (wrote_key n) = false
changes (tells m n b) = false
changes is_present = false
changes is_absent = false
changes is_none = false
changes is_posted = true
changes (index_is i) = false
changes (rank_is r) = false
changes (range_is i n) = false

-- the accounts become these if it does; otherwise they stay
unfoldable pub step_to : List Account → List Account → WeightedOutcome → AccountStep
step_to t u o = record { outcome = o; accounts = cond (changes o.answer) u t }

-- No call of the model tests 16: a list in the store always has an entry for each member.
-- 8, then 17 for what a member would hold
unfoldable pub post_on : Account → Bytes → ℤ → WeightedOutcome
post_on a x amount =
    let k : Key = key_in a.entry.width x in
    checked (key_test a.entry.width x ∷ test (a.entry.set k && outside (a.held k +ℤ amount)) overflow ∷ []) [] (list_of a)
    (cond (a.entry.set k) (leaving is_posted [] (list_of (posted_account a k amount))) (leaving is_absent [] (list_of a)))

-- these tests, 5, 14 and the last tests; accepted: an account more, whose encoding and list are written
unfoldable pub adds : List Account → Tests → Tests → Account → Bytes → Weights → AccountStep
adds t ts last a out ws = step_to t (t ++ a ∷ []) (writes_with ts last a.entry (list_of a) out ws)

unfoldable pub model_call : List Account → Call → Option AccountStep
model_call t (do_pack m batch out ws) = some (adds t (pack_tests m batch) [] (batch_account m batch) out ws)
model_call t (do_post i x amount) = at_place t i λ a. some (step_to t (set t i (posted_account a (key_in a.entry.width x) amount)) (post_on a x amount))
model_call t (do_union i j out ws) =
    at_place t i λ a. at_place t j λ b.
    some (adds t (join_tests a.entry b.entry) (sum_test a.entry b.entry a.held b.held ∷ []) (union_account a b) out ws)
model_call t (do_difference i j out ws) =
    at_place t i λ a. at_place t j λ b. some (adds t (join_tests a.entry b.entry) [] (difference_account a b.entry) out ws)

unfoldable pub outcome_of : Option AccountStep → Option WeightedOutcome
outcome_of none = none
outcome_of (some s) = some s.outcome

-- no call: nothing changes
unfoldable pub accounts_of : List Account → Option AccountStep → List Account
accounts_of t none = t
accounts_of t (some s) = s.accounts

-- the accounts after a history, and its outcomes call by call (none: no call)
unfoldable pub model_from : List Account → List Call → List Account
model_from t [] = t
model_from t (c ∷ h) = model_from (accounts_of t (model_call t c)) h

unfoldable pub model_says : List Account → List Call → List (Option WeightedOutcome)
model_says t [] = []
model_says t (c ∷ h) = outcome_of (model_call t c) ∷ model_says (accounts_of t (model_call t c)) h

-- ---- The store: encodings, each with its list beside it
pub record Stored : Type 0 where
  pub encoding : Bytes
  pub list : Weights

-- what stands for one outside the store
unfoldable pub none_stored : Stored
none_stored = record { encoding = []; list = [] }

-- each call is lent exactly the bytes and the entries there, and does what it does on them
unfoldable pub store_call : List Stored → Call → Option WeightedOutcome
store_call s (do_pack m batch out ws) = some (pack_weighted_call m batch out ws)
store_call s (do_post i x amount) = at_place s i λ p. some (post_call p.encoding p.list x amount)
store_call s (do_union i j out ws) = at_place s i λ p. at_place s j λ q. some (union_weighted_call p.encoding p.list q.encoding q.list out ws)
store_call s (do_difference i j out ws) = at_place s i λ p. at_place s j λ q. some (difference_weighted_call p.encoding p.list q.encoding out ws)

-- n, as open tells it
unfoldable pub count_read : Reading → ℕ
count_read (rejected k) = 0
count_read (opened e) = count e

-- an encoding, and the front of a list, an entry for each of its members
unfoldable pub stored_with : Weights → Bytes → Stored
stored_with ws l = record { encoding = l; list = take (count_read (read l)) ws }

-- what a call adds: the encodings that it wrote, each with the front of the list that it left
unfoldable pub added_by : WeightedOutcome → List Stored
added_by o = map (stored_with o.buffers.list) (written_with o.answer o.buffers.bytes)

-- what a call leaves: a post, whatever it answered, the list as it left it; any other adds what it wrote
unfoldable pub store_with : List Stored → Call → WeightedOutcome → List Stored
store_with s (do_pack m batch out ws) o = s ++ added_by o
store_with s (do_post i x amount) o = set s i (record { encoding = (get_or s i none_stored).encoding; list = o.buffers.list })
store_with s (do_union i j out ws) o = s ++ added_by o
store_with s (do_difference i j out ws) o = s ++ added_by o

unfoldable pub left_by : List Stored → Call → Option WeightedOutcome → List Stored
left_by s c none = s
left_by s c (some o) = store_with s c o

unfoldable pub store_from : List Stored → List Call → List Stored
store_from s [] = s
store_from s (c ∷ h) = store_from (left_by s c (store_call s c)) h

unfoldable pub store_says : List Stored → List Call → List (Option WeightedOutcome)
store_says s [] = []
store_says s (c ∷ h) = store_call s c ∷ store_says (left_by s c (store_call s c)) h

-- ---- After a history; at first there are none
unfoldable pub model_after : List Call → List Account
model_after h = model_from [] h

unfoldable pub store_after : List Call → List Stored
store_after h = store_from [] h

-- an account as the store has it: the encoding of its set, and its list
unfoldable pub stored_of : Account → Stored
stored_of a = record { encoding = encode a.entry; list = list_of a }
