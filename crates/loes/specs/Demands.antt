-- What the demands say of the calls on bytes, as propositions with no hypothesis, and all of them as one, `Demands`. The proof is proofs/Demands.antt.
use Rattle.std.specs.Prelude.{◌≡◌, ◌↔◌, ℕ, ◌+◌, ◌*◌, ◌<◌, ◌≤◌, true, false, cond, List, [], ◌∷◌, ◌++◌, map, length, get_or}
use mathlib.Core.Option.{none, some}
use Rattle.loes.specs.Bytes.{Bytes, bit, pack_bits, front}
use Rattle.loes.specs.Keys.{Key, KeySet, less, any_of, is_prefix, members, smaller}
use Rattle.loes.specs.Edges as sequence
use Rattle.loes.specs.Edges.{edges, present, edge_index}
use Rattle.loes.specs.Entry.{Entry, key_bytes, keys_of, count, edges_of, edge_count, with_set, too_many_edges, SameEntry, Valid}
use Rattle.loes.specs.Encode.{encode}
use Rattle.loes.specs.Refusals.{too_large, out_of_range, short_buffer, Tests, test, first_of}
use Rattle.loes.specs.Read.{read_tests, opened, read}
use Rattle.loes.specs.Model as model
use Rattle.loes.specs.Model.{refused, wrote, wrote_key, tells, is_present, is_absent, is_none, index_is, rank_is, range_is, OutcomeOf, Outcome, saying, writing, writing_all, any_short, key_in, key_test, pack_tests, batch_entry, join_tests, union_entry, difference_entry, both_entry, count_before, count_under}
use Rattle.loes.specs.Calls.{pack_call, union_call, difference_call, split_call, open_call, contains_call, index_of_call, key_at_call, rank_call, lower_bound_call, prefix_call}
use Rattle.loes.specs.Cursor.{before, after, Cursor, no_offsets, stays, goes_to_after, advance, advance_call}
use Rattle.loes.specs.Walk.{walk, visits, Roomy}
use Rattle.loes.specs.History.{Call, model_says, store_says, model_after, store_after}

-- ---- Demand 1: a refused call, of those that are lent something to write, changes no byte, and its cursor stays
abbrev pub Keeps : {L : Type 0} → OutcomeOf L → L → Type 0
Keeps o bufs = (k : ℕ) → o.answer ≡ refused k → o.buffers ≡ bufs

pub record RefusalsKeep : Type 0 where
  pub pack : (m : ℕ) (batch out : Bytes) → Keeps (pack_call m batch out) (out ∷ [])
  pub union : (a b out : Bytes) → Keeps (union_call a b out) (out ∷ [])
  pub difference : (a b out : Bytes) → Keeps (difference_call a b out) (out ∷ [])
  pub split : (a b both only_first only_second : Bytes) → Keeps (split_call a b both only_first only_second) (both ∷ only_first ∷ only_second ∷ [])
  pub key_at : (l : Bytes) (i : ℕ) (out : Bytes) → Keeps (key_at_call l i out) (out ∷ [])
  pub step : (l : Bytes) (c : Cursor) (out : Bytes) (k : ℕ) → (advance_call l c out).answer ≡ refused k
      → ((advance_call l c out).buffer ≡ out) × ((advance_call l c out).cursor ≡ c)

-- ---- Demand 2: encodings are read, written and questioned as plain sets are
-- each entry is within the limits, and its buffer has room for its encoding
abbrev pub Fit : List Entry → List Bytes → Type 0
Fit [] bufs = Unit {0}
Fit (e ∷ es) [] = ⊥
Fit (e ∷ es) (out ∷ bufs) = Valid e × (length (encode e) ≤ length out) × Fit es bufs

-- the encodings of entries, each at the front of its buffer; what is behind keeps its value
abbrev pub Fronts : List Entry → List Bytes → List Bytes
Fronts [] bufs = bufs
Fronts (e ∷ es) [] = []
Fronts (e ∷ es) (out ∷ bufs) = front (encode e) out ∷ Fronts es bufs

-- a call with these tests that writes entries, each to its own buffer: its tests, then 5 and 14 of any of them, of which the first that holds gives its number, and every buffer stays; it is accepted exactly if none of its
-- tests holds and all fit, and then each encoding stands at the front of its buffer, and their lengths are returned in order
pub record Writes (ts : Tests) (es : List Entry) (bufs : List Bytes) (o : Outcome) : Type 0 where
  pub turned : (k : ℕ) → first_of (ts ++ test (any_of (λ (e : Entry). too_many_edges (edge_count e)) es) too_large ∷ test (any_short (map encode es) bufs) short_buffer ∷ []) ≡ some k
      → o ≡ writing_all (refused k) bufs
  pub accepted : first_of ts ≡ none → Fit es bufs → o ≡ writing_all (wrote (map (λ (e : Entry). length (encode e)) es)) (Fronts es bufs)
  pub only : ((k : ℕ) → o.answer ≡ refused k → ⊥) → (first_of ts ≡ none) × Fit es bufs

-- every call that is given these bytes is refused with k, and changes nothing; of two encodings the first is read first
pub record Refuses (l : Bytes) (k : ℕ) : Type 0 where
  pub opening : open_call l ≡ saying (refused k)
  pub contains : (x : Bytes) → contains_call l x ≡ saying (refused k)
  pub index_of : (x : Bytes) → index_of_call l x ≡ saying (refused k)
  pub lower_bound : (x : Bytes) → lower_bound_call l x ≡ saying (refused k)
  pub rank : (o : ℕ) → rank_call l o ≡ saying (refused k)
  pub prefix : (p : ℕ) (x : Bytes) → prefix_call l p x ≡ saying (refused k)
  pub key_at : (i : ℕ) (out : Bytes) → key_at_call l i out ≡ writing (refused k) out
  pub step : (c : Cursor) (out : Bytes) → advance_call l c out ≡ stays k c out
  pub first : (b out : Bytes) → (union_call l b out ≡ writing (refused k) out) × (difference_call l b out ≡ writing (refused k) out)
  pub second : (e : Entry) (out : Bytes) → Valid e → (union_call (encode e) l out ≡ writing (refused k) out) × (difference_call (encode e) l out ≡ writing (refused k) out)
  pub first_split : (b x y z : Bytes) → split_call l b x y z ≡ writing_all (refused k) (x ∷ y ∷ z ∷ [])
  pub second_split : (e : Entry) (x y z : Bytes) → Valid e → split_call (encode e) l x y z ≡ writing_all (refused k) (x ∷ y ∷ z ∷ [])

pub record AnswersAgree : Type 0 where
  -- bytes are accepted exactly if they are the encoding of a set within the limits, and are read as that set; others are refused by every call, with the number of the first test that holds
  pub reads : (l : Bytes) (e : Entry) → (read l ≡ opened e) ↔ (Valid e × (l ≡ encode e))
  pub damaged : (l : Bytes) (k : ℕ) → first_of (read_tests l) ≡ some k → Refuses l k
  -- pack, union and difference write the encoding of the set that they name, split those of three
  pub pack : (m : ℕ) (batch out : Bytes) → Writes (pack_tests m batch) (batch_entry m batch ∷ []) (out ∷ []) (pack_call m batch out)
  pub union : (e f : Entry) (out : Bytes) → Valid e → Valid f → Writes (join_tests e f) (union_entry e f ∷ []) (out ∷ []) (union_call (encode e) (encode f) out)
  pub difference : (e f : Entry) (out : Bytes) → Valid e → Valid f → Writes (join_tests e f) (difference_entry e f ∷ []) (out ∷ []) (difference_call (encode e) (encode f) out)
  pub split : (e f : Entry) (both only_first only_second : Bytes) → Valid e → Valid f
      → Writes (join_tests e f) (both_entry e f ∷ difference_entry e f ∷ difference_entry f e ∷ []) (both ∷ only_first ∷ only_second ∷ []) (split_call (encode e) (encode f) both only_first only_second)
  -- (a key of either set is in exactly one of the three, and no other key is in any; twice the first count and the other two are both sets' counts; no part's encoding is longer than its set's; a set split with itself
  -- is itself, and twice the empty set)
  pub one_of_three : (e f : Entry) (k : Key) → bit ((both_entry e f).set k) + bit ((difference_entry e f).set k) + bit ((difference_entry f e).set k) ≡ bit ((union_entry e f).set k)
  pub counts : (e f : Entry) → e.width ≡ f.width → 2 * count (both_entry e f) + count (difference_entry e f) + count (difference_entry f e) ≡ count e + count f
  pub no_longer : (e f : Entry) → (length (encode (both_entry e f)) ≤ length (encode e)) × (length (encode (difference_entry e f)) ≤ length (encode e))
  pub itself : (e : Entry) → (encode (both_entry e e) ≡ encode e) × (encode (difference_entry e e) ≡ encode (with_set e (λ (k : Key). false)))
  -- opening an encoding, each question put to it, and a step over it, answer what its set does
  pub opening : (e : Entry) → Valid e → open_call (encode e) ≡ saying (tells e.width (count e) (edge_count e))
  pub contains : (e : Entry) (x : Bytes) → Valid e → contains_call (encode e) x ≡ (model.contains e x).outcome
  pub index_of : (e : Entry) (x : Bytes) → Valid e → index_of_call (encode e) x ≡ (model.index_of e x).outcome
  pub lower_bound : (e : Entry) (x : Bytes) → Valid e → lower_bound_call (encode e) x ≡ (model.lower_bound e x).outcome
  pub rank : (e : Entry) (o : ℕ) → Valid e → rank_call (encode e) o ≡ (model.rank_at e o).outcome
  pub prefix : (e : Entry) (p : ℕ) (x : Bytes) → Valid e → prefix_call (encode e) p x ≡ (model.prefix e p x).outcome
  pub key_at : (e : Entry) (i : ℕ) (out : Bytes) → Valid e → key_at_call (encode e) i out ≡ (model.key_at e i out).outcome
  pub step : (e : Entry) (c : Cursor) (out : Bytes) → Valid e → advance_call (encode e) c out ≡ advance e c out
  -- that is, of what is not refused: whether the set has the key, how many members are smaller, the key at that place, the set bits before the offset, how many members come before a prefix and begin with it; and after stays after
  pub says_member : (e : Entry) (x : Bytes) → key_test e.width x ≡ none → (model.contains e x).outcome.answer ≡ cond (e.set (key_in e.width x)) is_present is_absent
  pub says_index : (e : Entry) (x : Bytes) → key_test e.width x ≡ none
      → (model.index_of e x).outcome.answer ≡ cond (e.set (key_in e.width x)) (index_is (smaller (key_in e.width x) (keys_of e))) is_absent
  pub says_key : (e : Entry) (i : ℕ) (out : Bytes) → i < count e → key_bytes e.width ≤ length out
      → (model.key_at e i out).outcome ≡ writing (wrote_key (key_bytes e.width)) (front (pack_bits (get_or (keys_of e) i [])) out)
  pub says_rank : (e : Entry) (o : ℕ) → o ≤ edge_count e → (model.rank_at e o).outcome.answer ≡ rank_is (sequence.rank (edges_of e) o)
  pub says_prefix : (e : Entry) (p : ℕ) (x : Bytes) → p ≤ e.width → key_test p x ≡ none
      → (model.prefix e p x).outcome.answer ≡ range_is (count_before e (key_in p x)) (count_under e (key_in p x))
  -- (a prefix of more bits than the width is refused with 9, whatever its bytes)
  pub long_prefix : (e : Entry) (p : ℕ) (x : Bytes) → e.width < p → (model.prefix e p x).outcome ≡ saying (refused out_of_range)
  pub after_stays : (e : Entry) (out : Bytes) → advance e (no_offsets after) out ≡ goes_to_after out
  -- and that is what its edges tell: following them, a key is present exactly if the set has it, and its index is how many members are smaller
  pub presence : (k : Key) (m : ℕ) (s : KeySet) → length k ≡ m → 0 < m → present (edges m s) k ≡ s k
  pub index : (k : Key) (m : ℕ) (s : KeySet) → length k ≡ m → 0 < m → s k ≡ true → edge_index m s k ≡ smaller k (members m s)
  -- the key at place i is a member, and has i smaller
  pub place : (e : Entry) (i : ℕ) → i < count e
      → (length (get_or (keys_of e) i []) ≡ e.width) × (e.set (get_or (keys_of e) i []) ≡ true) × (smaller (get_or (keys_of e) i []) (keys_of e) ≡ i)
  -- a lower bound is the index of the first member that is not below the key, or none if all are below it
  pub bound : (e : Entry) (x : Bytes) (i : ℕ) → key_test e.width x ≡ none → i < count e → less (get_or (keys_of e) i []) (key_in e.width x) ≡ false
      → ((j : ℕ) → j < i → less (get_or (keys_of e) j []) (key_in e.width x) ≡ true) → (model.lower_bound e x).outcome.answer ≡ index_is i
  pub no_bound : (e : Entry) (x : Bytes) → key_test e.width x ≡ none → ((j : ℕ) → j < count e → less (get_or (keys_of e) j []) (key_in e.width x) ≡ true)
      → (model.lower_bound e x).outcome.answer ≡ is_none
  -- the members that begin with a prefix are those at the indexes from its first on, as many as are counted
  pub range : (e : Entry) (q : Key) (i : ℕ) → length q ≤ e.width → i < count e
      → (is_prefix q (get_or (keys_of e) i []) ≡ true) ↔ ((count_before e q ≤ i) × (i < count_before e q + count_under e q))
  -- all members begin with no bits; with the bits of a whole key it is the key itself; and a prefix has what it has with 0 behind it and with 1
  pub no_bits : (e : Entry) → (count_before e [] ≡ 0) × (count_under e [] ≡ count e)
  pub whole_key : (e : Entry) (k : Key) → length k ≡ e.width → (count_before e k ≡ smaller k (keys_of e)) × (count_under e k ≡ bit (e.set k))
  pub halves : (e : Entry) (q : Key) → length q < e.width → count_under e q ≡ count_under e (q ++ false ∷ []) + count_under e (q ++ true ∷ [])
  -- from before, with room for a key each time, the steps go to the members in order, each once, and then to after
  pub whole_walk : (l : Bytes) (e : Entry) → read l ≡ opened e → (outs : List Bytes) (last : Bytes) → length outs ≡ count e → Roomy (key_bytes e.width) outs
      → walk (advance_call l) (no_offsets before) (outs ++ last ∷ []) ≡ visits e (keys_of e) outs ++ goes_to_after last ∷ []

-- ---- Demand 3: for every history, what the calls did is what the model of plain sets says
pub record After (h : List Call) : Type 0 where
  -- every call was accepted or refused, and answered, as the model says, and every byte of its output buffers is the same
  pub outcomes : store_says [] h ≡ model_says [] h
  -- and what is stored are the encodings of the model's entries
  pub encodings : store_after h ≡ map encode (model_after h)

-- what stands for an entry outside the list
unfoldable pub no_entry : Entry
no_entry = record { width = 0; set = λ k. false }

-- an encoding made by one history and one made by another are equal byte for byte exactly when their entries have the same width and the same keys
pub record Between (g h : List Call) : Type 0 where
  pub equal : (i j : ℕ) → i < length (store_after g) → j < length (store_after h)
      → (get_or (store_after g) i [] ≡ get_or (store_after h) j []) ↔ SameEntry (get_or (model_after g) i no_entry) (get_or (model_after h) j no_entry)

-- for every history, and for every two, which may be the same one
pub record HistoriesAgree : Type 0 where
  pub one : (h : List Call) → After h
  pub two : (g h : List Call) → Between g h

-- ---- All of it
pub record Demands : Type 0 where
  pub refusals : RefusalsKeep
  pub answers : AnswersAgree
  pub histories : HistoriesAgree
