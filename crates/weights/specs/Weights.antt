-- Weights (document 02, slip 1: kilograms): a list of signed numbers beside an encoding; entry i is the weight of the key at index i.
use Rattle.std.specs.Prelude.{ℕ, Bool, ◌&&◌, ◌||◌, cond, not, List, [], ◌∷◌, ◌++◌, map, ℤ, pos, negsuc, ◌+ℤ◌, length, get_or, set, eqb, ltb}
use mathlib.Core.Option.{Option}
use Rattle.std.specs.Int.Signed.{lt_z}
use Rattle.loes.specs.Bytes.{Bytes, front}
use Rattle.loes.specs.Keys.{Key, any_of, smaller}
use Rattle.loes.specs.Entry.{Entry, keys_of, count, edge_count, too_many_edges}
use Rattle.loes.specs.Encode.{encode}
use Rattle.loes.specs.Refusals.{too_large, short_buffer, wrong_list, overflow, Tests, test}
use Rattle.loes.specs.Model.{Answer, wrote, is_posted, is_absent, OutcomeOf, tested, key_in, key_test, pack_tests, batch_entry, join_tests, union_entry, difference_entry}
use Rattle.loes.specs.Calls.{reading}

-- ---- Lists
abbrev pub Weights : Type 0
Weights = List ℤ

-- the weight of a key that was just packed, and of one that is no member
abbrev pub no_weight : ℤ
no_weight = pos 0

unfoldable pub total : Weights → ℤ
total [] = no_weight
total (x ∷ l) = x +ℤ total l

-- the weight of a key: the entry at its index if it is a member, else nothing
unfoldable pub weight_of : Entry → Weights → Key → ℤ
weight_of e ws k = cond (e.set k) (get_or ws (smaller k (keys_of e)) no_weight) no_weight

-- the list of an entry: a weight for each key, in order
unfoldable pub listed : Entry → (Key → ℤ) → Weights
listed e w = map w (keys_of e)

-- ---- 32 signed bits
abbrev pub least : ℤ
least = negsuc 2147483647

abbrev pub greatest : ℤ
greatest = pos 2147483647

-- below the least or above the greatest
unfoldable pub outside : ℤ → Bool
outside z = lt_z z least || lt_z greatest z

-- ---- Outcomes
-- what is lent for output: buffers for encodings, and the list
pub record Outputs : Type 0 where
  pub bytes : List Bytes
  pub list : Weights

abbrev pub outputs : List Bytes → Weights → Outputs
outputs bufs ws = record { bytes = bufs; list = ws }

abbrev pub WeightedOutcome : Type 0
WeightedOutcome = OutcomeOf Outputs

abbrev pub leaving : Answer → List Bytes → Weights → WeightedOutcome
leaving a bufs ws = record { answer = a; buffers = outputs bufs ws }

-- a call with these tests that is lent these outputs, and what it leaves if no test holds
unfoldable pub checked : Tests → List Bytes → Weights → WeightedOutcome → WeightedOutcome
checked ts bufs ws done = (tested ts (outputs bufs ws) (record { outcome = done; added = [] })).outcome

-- ---- Tests
-- 16: a list that is not as long as its encoding has members
unfoldable pub list_test : Entry → Weights → Option ℕ
list_test e ws = test (not (eqb (length ws) (count e))) wrong_list

-- both weights of a key; a key that only one of two sets has keeps its weight, since the other has nothing for it
unfoldable pub sum_of : (Key → ℤ) → (Key → ℤ) → Key → ℤ
sum_of w v k = w k +ℤ v k

-- 17: some key that both have, whose sum leaves 32 signed bits
unfoldable pub sum_test : Entry → Entry → (Key → ℤ) → (Key → ℤ) → Option ℕ
sum_test e f w v = test (any_of (λ (k : Key). e.set k && f.set k && outside (sum_of w v k)) (keys_of (union_entry e f))) overflow

-- ---- An encoding and its list are written, each to the front of its own output
-- the call's own tests; 5; 14 if the buffer is too short for the encoding or the list for its entries; the call's last tests
unfoldable pub writes_with : Tests → Tests → Entry → Weights → Bytes → Weights → WeightedOutcome
writes_with ts last e l out ws =
    checked
    (ts
    ++ test (too_many_edges (edge_count e)) too_large
    ∷ test (ltb (length out) (length (encode e)) || ltb (length ws) (length l)) short_buffer
    ∷ last)
    (out ∷ []) ws
    (leaving (wrote (length (encode e) ∷ [])) (front (encode e) out ∷ []) (front l ws))

-- ---- The calls on entries and their lists
-- 13, 16, 5, 14, 17: the sums
unfoldable pub union_weighted : Entry → Weights → Entry → Weights → Bytes → Weights → WeightedOutcome
union_weighted e we f wf out ws =
    writes_with (join_tests e f ++ list_test e we ∷ list_test f wf ∷ []) (sum_test e f (weight_of e we) (weight_of f wf) ∷ [])
    (union_entry e f) (listed (union_entry e f) (sum_of (weight_of e we) (weight_of f wf))) out ws

-- 13, 16, 5, 14: the first's weights; only the first has a list
unfoldable pub difference_weighted : Entry → Weights → Entry → Bytes → Weights → WeightedOutcome
difference_weighted e we f out ws =
    writes_with (join_tests e f ++ list_test e we ∷ []) [] (difference_entry e f) (listed (difference_entry e f) (weight_of e we)) out ws

-- 16, 8, then 17 if the key is a member: its entry is the sum, or it is absent and nothing changes
unfoldable pub post : Entry → Weights → Bytes → ℤ → WeightedOutcome
post e ws x amount =
    let k : Key = key_in e.width x in
    let sum : ℤ = weight_of e ws k +ℤ amount in
    checked (list_test e ws ∷ key_test e.width x ∷ test (e.set k && outside sum) overflow ∷ []) [] ws
    (cond (e.set k) (leaving is_posted [] (set ws (smaller k (keys_of e)) sum)) (leaving is_absent [] ws))

-- ---- The calls on bytes: the encodings' refusals first. Public functions promise these.
-- 4, 10, key by key 11 and 12, 5, 14: nothing for each key
unfoldable pub pack_weighted_call : ℕ → Bytes → Bytes → Weights → WeightedOutcome
pack_weighted_call m batch out ws = writes_with (pack_tests m batch) [] (batch_entry m batch) (listed (batch_entry m batch) (λ k. no_weight)) out ws

unfoldable pub post_call : Bytes → Weights → Bytes → ℤ → WeightedOutcome
post_call l ws x amount = reading l (outputs [] ws) λ e. post e ws x amount

-- first encoding, second encoding, 13, 16, 5, 14, 17
unfoldable pub union_weighted_call : Bytes → Weights → Bytes → Weights → Bytes → Weights → WeightedOutcome
union_weighted_call a wa b wb out ws =
    let lent : Outputs = outputs (out ∷ []) ws in
    reading a lent λ e. reading b lent λ f. union_weighted e wa f wb out ws

unfoldable pub difference_weighted_call : Bytes → Weights → Bytes → Bytes → Weights → WeightedOutcome
difference_weighted_call a wa b out ws =
    let lent : Outputs = outputs (out ∷ []) ws in
    reading a lent λ e. reading b lent λ f. difference_weighted e wa f out ws
