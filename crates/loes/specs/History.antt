-- Histories: one list of calls, run by a store of encodings (document 01: the shelf) and by the model of plain sets (document 01: the table).
use Rattle.std.specs.Prelude.{ℕ, zero, suc, List, [], ◌∷◌, ◌++◌, take}
use mathlib.Core.Option.{Option, none, some}
use Rattle.loes.specs.Bytes.{Bytes}
use Rattle.loes.specs.Entry.{Entry}
use Rattle.loes.specs.Model.{Answer, refused, wrote, wrote_key, tells, is_present, is_absent, is_none, is_posted, index_is, rank_is, range_is, Outcome, Step, pack, union, difference, split, contains, index_of, key_at, rank_at, lower_bound, prefix}
use Rattle.loes.specs.Calls.{pack_call, union_call, difference_call, split_call, contains_call, index_of_call, key_at_call, rank_call, lower_bound_call, prefix_call}

-- A call as a history has it: encodings by their places in the store, counted from 0, and whatever else it is given; its output buffers come last.
pub data Call : Type 0 where
  -- a width and a batch
  do_pack : ℕ → Bytes → Bytes → Call
  -- two places
  do_union : ℕ → ℕ → Bytes → Call
  do_difference : ℕ → ℕ → Bytes → Call
  do_split : ℕ → ℕ → Bytes → Bytes → Bytes → Call
  -- a place and a key
  ask_contains : ℕ → Bytes → Call
  ask_index_of : ℕ → Bytes → Call
  ask_lower_bound : ℕ → Bytes → Call
  -- a place and an index
  ask_key_at : ℕ → ℕ → Bytes → Call
  -- a place and an offset
  ask_rank : ℕ → ℕ → Call
  -- a place and a prefix: its bits, and the bytes they are in
  ask_prefix : ℕ → ℕ → Bytes → Call

-- what follows for the element at a place; a place not yet filled is no call
unfoldable pub at_place : {A B : Type 0} → List A → ℕ → (A → Option B) → Option B
at_place [] i next = none
at_place (x ∷ l) zero next = next x
at_place (x ∷ l) (suc i) next = at_place l i next

-- ---- The model: it never looks at the store
unfoldable pub model_call : List Entry → Call → Option Step
model_call t (do_pack m batch out) = some (pack m batch out)
model_call t (do_union i j out) = at_place t i λ e. at_place t j λ f. some (union e f out)
model_call t (do_difference i j out) = at_place t i λ e. at_place t j λ f. some (difference e f out)
model_call t (do_split i j both only_first only_second) = at_place t i λ e. at_place t j λ f. some (split e f both only_first only_second)
model_call t (ask_contains i x) = at_place t i λ e. some (contains e x)
model_call t (ask_index_of i x) = at_place t i λ e. some (index_of e x)
model_call t (ask_lower_bound i x) = at_place t i λ e. some (lower_bound e x)
model_call t (ask_key_at i n out) = at_place t i λ e. some (key_at e n out)
model_call t (ask_rank i o) = at_place t i λ e. some (rank_at e o)
model_call t (ask_prefix i p x) = at_place t i λ e. some (prefix e p x)

unfoldable pub added_by : Option Step → List Entry
added_by none = []
added_by (some s) = s.added

unfoldable pub outcome_of : Option Step → Option Outcome
outcome_of none = none
outcome_of (some s) = some s.outcome

-- the entries after a history, and its outcomes call by call (none: no call)
unfoldable pub model_from : List Entry → List Call → List Entry
model_from t [] = t
model_from t (c ∷ h) = model_from (t ++ added_by (model_call t c)) h

unfoldable pub model_says : List Entry → List Call → List (Option Outcome)
model_says t [] = []
model_says t (c ∷ h) = outcome_of (model_call t c) ∷ model_says (t ++ added_by (model_call t c)) h

-- ---- The store: each call is lent exactly the bytes there, and does what it does on bytes
unfoldable pub store_call : List Bytes → Call → Option Outcome
store_call s (do_pack m batch out) = some (pack_call m batch out)
store_call s (do_union i j out) = at_place s i λ a. at_place s j λ b. some (union_call a b out)
store_call s (do_difference i j out) = at_place s i λ a. at_place s j λ b. some (difference_call a b out)
store_call s (do_split i j both only_first only_second) = at_place s i λ a. at_place s j λ b. some (split_call a b both only_first only_second)
store_call s (ask_contains i x) = at_place s i λ a. some (contains_call a x)
store_call s (ask_index_of i x) = at_place s i λ a. some (index_of_call a x)
store_call s (ask_lower_bound i x) = at_place s i λ a. some (lower_bound_call a x)
store_call s (ask_key_at i n out) = at_place s i λ a. some (key_at_call a n out)
store_call s (ask_rank i o) = at_place s i λ a. some (rank_call a o)
store_call s (ask_prefix i p x) = at_place s i λ a. some (prefix_call a p x)

-- the fronts of the output buffers, as long as the lengths returned
unfoldable pub cut : List ℕ → List Bytes → List Bytes
cut [] bufs = []
cut (n ∷ ns) [] = []
cut (n ∷ ns) (buf ∷ bufs) = take n buf ∷ cut ns bufs

-- an accepted call that writes encodings adds them, in order; any other adds nothing
unfoldable pub written_with : Answer → List Bytes → List Bytes
written_with (wrote ns) bufs = cut ns bufs
written_with (refused k) bufs = []
written_with (wrote_key n) bufs = []
written_with (tells m n b) bufs = []
written_with is_present bufs = []
written_with is_absent bufs = []
written_with is_none bufs = []
written_with is_posted bufs = []
written_with (index_is n) bufs = []
written_with (rank_is n) bufs = []
written_with (range_is i n) bufs = []

unfoldable pub written_by : Option Outcome → List Bytes
written_by none = []
written_by (some o) = written_with o.answer o.buffers

unfoldable pub store_from : List Bytes → List Call → List Bytes
store_from s [] = s
store_from s (c ∷ h) = store_from (s ++ written_by (store_call s c)) h

unfoldable pub store_says : List Bytes → List Call → List (Option Outcome)
store_says s [] = []
store_says s (c ∷ h) = store_call s c ∷ store_says (s ++ written_by (store_call s c)) h

-- ---- After a history; at first there are none
unfoldable pub model_after : List Call → List Entry
model_after h = model_from [] h

unfoldable pub store_after : List Call → List Bytes
store_after h = store_from [] h
