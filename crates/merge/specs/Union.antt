-- Merging: two edge sequences read in step give the edges of the union, and for each member of it in which of the two it is. A queue holds the flags of the records to come; a record takes the place of its flag.
use Rattle.std.specs.Prelude.{◌≡◌, ℕ, ◌+◌, ◌-◌, ◌*◌, ◌/◌, ◌<◌, ◌≤◌, Bool, ◌||◌, cond, List, [], ◌∷◌, ◌++◌, map, length, drop}
use Rattle.loes.specs.Limits.{max_edges}
use Rattle.loes.specs.Bytes.{Bytes, bit, bits_in}
use Rattle.loes.specs.Keys.{Key, KeySet}
use Rattle.loes.specs.Edges.{Record}
use Rattle.loes.specs.Entry.{Entry, keys_of, edges_of}
use Rattle.loes.specs.Model.{union_entry}
use Rattle.records.specs.Records.{Flag, empty_record, record_at, records_to, records_at, next_of, rest_of, flag_at, flags_to, flags_from, flag_of_record, record_of_flag, flag_if, first_count, second_count}
use Rattle.records.specs.Numbers.{records_of, Short, overread, overwrite}

-- ---- On entries
-- which of two sets has a key
unfoldable pub flag_of : KeySet → KeySet → Key → Flag
flag_of s t k = record { in_first = s k; in_second = t k }

-- n flags from place r on: those of the union's members, in order
pub record MemberFlags (e f : Entry) (p : Bytes) (r n : ℕ) : Type 0 where
  pub each : flags_from p r n ≡ map (flag_of e.set f.set) (keys_of (union_entry e f))
  pub fits : r + n ≤ 4 * length p

-- what merging two entries leaves: the union's edges in the first b bits, and behind them the flags of its n members
pub record Merged (e f : Entry) (q p : Bytes) (b n : ℕ) : Type 0 where
  pub edges : bits_in p b ≡ edges_of (union_entry e f)
  pub flags : MemberFlags e f p (b / 2) n
  pub size : length p ≡ length q

-- room for the flags that merging a and b edges pushes
pub record QueueRoom (a b : ℕ) (q : Bytes) : Type 0 where
  pub queue : a + b + 1 + overwrite ≤ 4 * length q
  pub small : length q ≤ max_edges

-- ---- On lists of records
-- the edges of either
unfoldable pub either_record : Record → Record → Record
either_record x y = record { on_zero = x.on_zero || y.on_zero; on_one = x.on_one || y.on_one }

unfoldable pub merged : List Flag → List Record → List Record → List Record
merged [] xs ys = []
merged (f ∷ fs) xs ys =
    either_record (next_of f.in_first xs) (next_of f.in_second ys) ∷ merged fs (rest_of f.in_first xs) (rest_of f.in_second ys)

-- the flags of the prefixes that two records' edges lead to
unfoldable pub child_flags : Record → Record → List Flag
child_flags x y = flag_if x.on_zero y.on_zero ++ flag_if x.on_one y.on_one

unfoldable pub pushed : List Flag → List Record → List Record → List Flag
pushed [] xs ys = []
pushed (f ∷ fs) xs ys =
    child_flags (next_of f.in_first xs) (next_of f.in_second ys) ++ pushed fs (rest_of f.in_first xs) (rest_of f.in_second ys)

-- of records side by side: the edges of either, and the flags of the prefixes that they lead to
unfoldable pub eithers : List Record → List Record → List Record
eithers [] ys = []
eithers (x ∷ xs) [] = []
eithers (x ∷ xs) (y ∷ ys) = either_record x y ∷ eithers xs ys

unfoldable pub children_of : List Record → List Record → List Flag
children_of [] ys = []
children_of (x ∷ xs) [] = []
children_of (x ∷ xs) (y ∷ ys) = child_flags x y ++ children_of xs ys

-- ---- In numbers
-- the flags of two bytes
unfoldable pub flags_in : ℕ → ℕ → List Flag
flags_in c d = map flag_of_record (records_of 4 c ++ records_of 4 d)

-- eight flags f merged with the records xs and ys: the union's in two bytes h and k, the flags pushed in a run of c bits of r, and how many records are taken of each
pub record EightMerged (f : List Flag) (xs ys : List Record) (h k r c la lb : ℕ) : Type 0 where
  pub out : records_of 4 h ++ records_of 4 k ≡ merged f xs ys
  pub queue : records_of (c / 2) r ≡ map record_of_flag (pushed f xs ys)
  pub short : Short 16 r c
  pub takena : la ≡ first_count f
  pub takenb : lb ≡ second_count f
  pub bytes : (h < 256) × (k < 256)
  pub few : (la ≤ 8) × (lb ≤ 8)

-- ---- In bytes
-- record i, if it is to be taken
unfoldable pub taken_record : Bool → Bytes → ℕ → Record
taken_record b l i = cond b (record_at l i) empty_record

-- all records behind the first k
unfoldable pub records_from : Bytes → ℕ → List Record
records_from l k = drop k (records_to l (4 * length l))

-- flags put behind the first n of a queue
pub record Queued (n : ℕ) (f : List Flag) (q p : Bytes) (end : ℕ) : Type 0 where
  pub flags : flags_to p end ≡ flags_to q n ++ f
  pub size : length p ≡ length q

-- record i merged in the place of its flag: a b the two edge sequences, q p the queue before and after; its flags are those from place i on
pub record RecordMerged (a b q : Bytes) (i ka kb tail : ℕ) (p : Bytes) (la lb end : ℕ) : Type 0 where
  pub takena : la ≡ ka + bit (flag_at q i).in_first
  pub takenb : lb ≡ kb + bit (flag_at q i).in_second
  pub out : records_to p (i + 1) ≡ records_to q i ++ either_record (taken_record (flag_at q i).in_first a ka) (taken_record (flag_at q i).in_second b kb) ∷ []
  pub queue : flags_from p (i + 1) (end - (i + 1)) ≡ flags_from q (i + 1) (tail - (i + 1)) ++ child_flags (taken_record (flag_at q i).in_first a ka) (taken_record (flag_at q i).in_second b kb)
  pub last : i + 1 ≤ end
  pub size : length p ≡ length q

-- the same of the eight flags from byte j on
pub record BlockMerged (a b q : Bytes) (j ka kb tail : ℕ) (p : Bytes) (la lb end : ℕ) : Type 0 where
  pub takena : la ≡ ka + first_count (flags_from q (4 * j) 8)
  pub takenb : lb ≡ kb + second_count (flags_from q (4 * j) 8)
  pub out : records_to p (4 * j + 8) ≡ records_to q (4 * j) ++ merged (flags_from q (4 * j) 8) (records_at a ka 8) (records_at b kb 8)
  pub queue : flags_from p (4 * j + 8) (end - (4 * j + 8)) ≡ flags_from q (4 * j + 8) (tail - (4 * j + 8)) ++ pushed (flags_from q (4 * j) 8) (records_at a ka 8) (records_at b kb 8)
  pub last : 4 * j + 8 ≤ end
  pub size : length p ≡ length q

-- the same of the first n flags from place `from` on: of a level, if they are all
pub record LevelMerged (a b q : Bytes) (from ka kb tail n : ℕ) (p : Bytes) (la lb end : ℕ) : Type 0 where
  pub takena : la ≡ ka + first_count (flags_from q from n)
  pub takenb : lb ≡ kb + second_count (flags_from q from n)
  pub out : records_to p (from + n) ≡ records_to q from ++ merged (flags_from q from n) (records_from a ka) (records_from b kb)
  pub queue : flags_from p (from + n) (end - (from + n)) ≡ flags_from q (from + n) (tail - (from + n)) ++ pushed (flags_from q from n) (records_from a ka) (records_from b kb)
  pub last : from + n ≤ end
  pub size : length p ≡ length q

-- what a level of the flags f needs: records to take, and room for the flags pushed
pub record LevelRoom (a b q : Bytes) (from ka kb tail : ℕ) (f : List Flag) : Type 0 where
  pub order : from ≤ tail
  pub queue : tail + 2 * (first_count f + second_count f) + overwrite ≤ 4 * length q
  pub small : length q ≤ max_edges
  pub first : ka + first_count f + overread ≤ 4 * length a
  pub second : kb + second_count f + overread ≤ 4 * length b
  pub limit : ka + first_count f + (kb + second_count f) ≤ max_edges
