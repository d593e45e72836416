-- The model: what each call answers on entries, and every lent buffer after it (document 01: the table's steps).
use Rattle.std.specs.Prelude.{ℕ, ◌*◌, ◌/◌, ◌%◌, Bool, true, false, ◌||◌, cond, not, List, [], ◌∷◌, ◌++◌, map, length, take, drop, get_or, eqb, ltb}
use mathlib.Core.Option.{Option, none, some}
use Rattle.loes.specs.Bytes.{Bytes, tabulate, pack_bits, bits_in, front}
use Rattle.loes.specs.Keys.{Key, those, any_of, less, is_prefix, smaller, set_of, either, without, in_both}
use Rattle.loes.specs.Edges.{rank}
use Rattle.loes.specs.Entry.{Entry, key_bytes, keys_of, count, edges_of, edge_count, with_set, wrong_width, too_many_edges}
use Rattle.loes.specs.Encode.{encode}
use Rattle.loes.specs.Refusals.{bad_width, too_large, bad_key, out_of_range, ragged_batch, unused_bit_set, descending, two_widths, short_buffer, Tests, test, first_of}

-- ---- Answers and outcomes
pub data Answer : Type 0 where
  -- refused, with this number alone
  refused : ℕ → Answer
  -- wrote encodings of these lengths, in order
  wrote : List ℕ → Answer
  -- wrote a key of so many bytes; 0: a cursor went to after
  wrote_key : ℕ → Answer
  -- m, n and b
  tells : ℕ → ℕ → ℕ → Answer
  is_present is_absent is_none : Answer
  -- an amount was added to a member's weight
  is_posted : Answer
  index_is : ℕ → Answer
  rank_is : ℕ → Answer
  -- so many members come before a prefix, and so many begin with it
  range_is : ℕ → ℕ → Answer

-- what is returned, and what was lent for output, after the call
pub record OutcomeOf (L : Type 0) : Type 0 where
  pub answer : Answer
  pub buffers : L

-- of the calls that are lent output buffers only
abbrev pub Outcome : Type 0
Outcome = OutcomeOf (List Bytes)

-- an answer, with several buffers lent, with one, and with none
abbrev pub writing_all : Answer → List Bytes → Outcome
writing_all a bufs = record { answer = a; buffers = bufs }

abbrev pub writing : Answer → Bytes → Outcome
writing a out = writing_all a (out ∷ [])

abbrev pub saying : Answer → Outcome
saying a = writing_all a []

-- a step of the model: its outcome, and the entries it adds
pub record StepOf (L : Type 0) : Type 0 where
  pub outcome : OutcomeOf L
  pub added : List Entry

abbrev pub Step : Type 0
Step = StepOf (List Bytes)

-- ---- Refused or done
-- refused: nothing is added, everything lent stays
unfoldable pub refusal : {L : Type 0} → ℕ → L → StepOf L
refusal k bufs = record { outcome = record { answer = refused k; buffers = bufs }; added = [] }

unfoldable pub refused_or : {L : Type 0} → Option ℕ → L → StepOf L → StepOf L
refused_or none bufs done = done
refused_or (some k) bufs done = refusal k bufs

-- a call with these tests and these buffers, and what it does if no test holds
unfoldable pub tested : {L : Type 0} → Tests → L → StepOf L → StepOf L
tested ts bufs done = refused_or (first_of ts) bufs done

-- nothing is written
unfoldable pub answers : Tests → Answer → Step
answers ts a = tested ts [] (record { outcome = saying a; added = [] })

-- ---- Encodings that are written, each to the front of its own buffer
unfoldable pub fronts : List Bytes → List Bytes → List Bytes
fronts [] bufs = bufs
fronts (x ∷ xs) [] = []
fronts (x ∷ xs) (buf ∷ bufs) = front x buf ∷ fronts xs bufs

-- a buffer is missing or too short
unfoldable pub any_short : List Bytes → List Bytes → Bool
any_short [] bufs = false
any_short (x ∷ xs) [] = true
any_short (x ∷ xs) (buf ∷ bufs) = ltb (length buf) (length x) || any_short xs bufs

-- the call's own tests, then 5, 14
unfoldable pub writes : Tests → List Entry → List Bytes → Step
writes ts es bufs =
    tested
    (ts ++ test (any_of (λ (e : Entry). too_many_edges (edge_count e)) es) too_large ∷ test (any_short (map encode es) bufs) short_buffer ∷ [])
    bufs
    (record {
      outcome = writing_all (wrote (map (λ (e : Entry). length (encode e)) es)) (fronts (map encode es) bufs);
      added = es;
    })

-- ---- A key that is written: the call's own tests, then 14
unfoldable pub writes_key : Tests → ℕ → Key → Bytes → Step
writes_key ts m k out =
    tested (ts ++ test (ltb (length out) (key_bytes m)) short_buffer ∷ []) (out ∷ [])
    (record { outcome = writing (wrote_key (key_bytes m)) (front (pack_bits k) out); added = [] })

-- ---- Keys as they are given
-- the key of m bits in bytes
unfoldable pub key_in : ℕ → Bytes → Key
key_in m x = bits_in x m

-- one of the bits behind the m bits is set
unfoldable pub unused_set : ℕ → Bytes → Bool
unused_set m x = any_of (λ (b : Bool). b) (drop m (bits_in x (8 * key_bytes m)))

-- 8, of a key or a prefix of m bits: not as many bytes as they take, or an unused bit set
unfoldable pub key_test : ℕ → Bytes → Option ℕ
key_test m x = test (not (eqb (length x) (key_bytes m)) || unused_set m x) bad_key

-- 9: not below
unfoldable pub below_test : ℕ → ℕ → Option ℕ
below_test i n = test (not (ltb i n)) out_of_range

-- 9: above
unfoldable pub at_most_test : ℕ → ℕ → Option ℕ
at_most_test i n = test (ltb n i) out_of_range

-- ---- Pack
-- the keys of a batch, laid end to end, t bytes each
unfoldable pub batch_keys : ℕ → Bytes → List Bytes
batch_keys m batch = tabulate (λ (i : ℕ). take (key_bytes m) (drop (key_bytes m * i) batch)) (length batch / key_bytes m)

-- of a key: 11, and 12 against the one before it
abbrev pub pair_tests : ℕ → Key → Bytes → Tests
pair_tests m before x = test (unused_set m x) unused_bit_set ∷ test (less (key_in m x) before) descending ∷ []

-- key by key (in front of the first stands [], and nothing is smaller than that)
unfoldable pub rising_tests : ℕ → Key → List Bytes → Tests
rising_tests m before [] = []
rising_tests m before (x ∷ l) = pair_tests m before x ++ rising_tests m (key_in m x) l

-- 4, 10, then key by key
unfoldable pub pack_tests : ℕ → Bytes → Tests
pack_tests m batch =
    test (wrong_width m) bad_width
    ∷ test (not (eqb (length batch % key_bytes m) 0)) ragged_batch
    ∷ rising_tests m [] (batch_keys m batch)

-- the width and the set of the batch's keys
unfoldable pub batch_entry : ℕ → Bytes → Entry
batch_entry m batch = record { width = m; set = set_of (map (key_in m) (batch_keys m batch)) }

unfoldable pub pack : ℕ → Bytes → Bytes → Step
pack m batch out = writes (pack_tests m batch) (batch_entry m batch ∷ []) (out ∷ [])

-- ---- Union and difference (document 01: fold and strike)
-- the keys in either set, and those in the first but not in the second
abbrev pub union_entry : Entry → Entry → Entry
union_entry e f = with_set e (either e.set f.set)

abbrev pub difference_entry : Entry → Entry → Entry
difference_entry e f = with_set e (without e.set f.set)

-- 13
unfoldable pub join_tests : Entry → Entry → Tests
join_tests e f = test (not (eqb e.width f.width)) two_widths ∷ []

unfoldable pub union : Entry → Entry → Bytes → Step
union e f out = writes (join_tests e f) (union_entry e f ∷ []) (out ∷ [])

unfoldable pub difference : Entry → Entry → Bytes → Step
difference e f out = writes (join_tests e f) (difference_entry e f ∷ []) (out ∷ [])

-- ---- Split (document 02, request 3): three encodings, each to its own buffer
-- the keys in both sets
abbrev pub both_entry : Entry → Entry → Entry
both_entry e f = with_set e (in_both e.set f.set)

-- in both, in the first only, in the second only
unfoldable pub split : Entry → Entry → Bytes → Bytes → Bytes → Step
split e f both only_first only_second = writes (join_tests e f) (both_entry e f ∷ difference_entry e f ∷ difference_entry f e ∷ []) (both ∷ only_first ∷ only_second ∷ [])

-- ---- Open, and document 01's five questions
unfoldable pub opens : Entry → Step
opens e = answers [] (tells e.width (count e) (edge_count e))

-- document 01: present or not
unfoldable pub contains : Entry → Bytes → Step
contains e x = answers (key_test e.width x ∷ []) (cond (e.set (key_in e.width x)) is_present is_absent)

-- document 01: lot, or absent
unfoldable pub index_of : Entry → Bytes → Step
index_of e x =
    let k : Key = key_in e.width x in
    answers (key_test e.width x ∷ []) (cond (e.set k) (index_is (smaller k (keys_of e))) is_absent)

-- document 01: ticket of a lot; the key that has i smaller is the one at place i of the keys in order
unfoldable pub key_at : Entry → ℕ → Bytes → Step
key_at e i out = writes_key (below_test i (count e) ∷ []) e.width (get_or (keys_of e) i []) out

-- document 01: rank of an offset; document 02: from 0 to b
unfoldable pub rank_at : Entry → ℕ → Step
rank_at e o = answers (at_most_test o (edge_count e) ∷ []) (rank_is (rank (edges_of e) o))

-- document 01: seek; how many keys are smaller, or none if all are
unfoldable pub lower_bound : Entry → Bytes → Step
lower_bound e x =
    let n : ℕ = smaller (key_in e.width x) (keys_of e) in
    answers (key_test e.width x ∷ []) (cond (eqb n (count e)) is_none (index_is n))

-- ---- Prefixes (document 02, request 2: tickets under one beginning)
-- how many members' own first bits, as many as q has, are smaller
unfoldable pub count_before : Entry → Key → ℕ
count_before e q = smaller q (map (take (length q)) (keys_of e))

-- how many members begin with q
unfoldable pub count_under : Entry → Key → ℕ
count_under e q = length (those (is_prefix q) (keys_of e))

-- 9 for more bits than the width, then 8
unfoldable pub prefix_tests : Entry → ℕ → Bytes → Tests
prefix_tests e p x = at_most_test p e.width ∷ key_test p x ∷ []

unfoldable pub prefix : Entry → ℕ → Bytes → Step
prefix e p x = answers (prefix_tests e p x) (range_is (count_before e (key_in p x)) (count_under e (key_in p x)))
