-- Records and flags in bytes: two bits each, four to a byte, the first in the most significant bits.
use Rattle.std.specs.Prelude.{◌≡◌, ℕ, zero, suc, ◌+◌, ◌-◌, ◌*◌, ◌/◌, ◌%◌, ◌^◌, Bool, true, false, ◌||◌, cond, List, [], ◌∷◌, ◌++◌, length, take, drop, eqb}
use Rattle.loes.specs.Bytes.{Bytes, bit, odd, bit_at, bits_in, tabulate, started, pack_bits}
use Rattle.loes.specs.Keys.{those}
use Rattle.loes.specs.Edges.{Record}

-- ---- Records
unfoldable pub empty_record : Record
empty_record = record { on_zero = false; on_one = false }

-- whether a record has an edge, and how many
unfoldable pub has_edge : Record → Bool
has_edge r = r.on_zero || r.on_one

unfoldable pub children : Record → ℕ
children r = bit r.on_zero + bit r.on_one

-- the record of a number below 4: 2·on_zero + on_one
unfoldable pub record_of_code : ℕ → Record
record_of_code x = record { on_zero = odd (x / 2); on_one = odd x }

-- the number of record k of a byte
unfoldable pub code_in : ℕ → ℕ → ℕ
code_in x k = x / 2 ^ (6 - 2 * k) % 4

-- record i of bytes, and the first n
unfoldable pub record_at : Bytes → ℕ → Record
record_at l i = record { on_zero = bit_at l (2 * i); on_one = bit_at l (2 * i + 1) }

unfoldable pub records_to : Bytes → ℕ → List Record
records_to l n = tabulate (record_at l) n

-- n records from record i on
unfoldable pub records_at : Bytes → ℕ → ℕ → List Record
records_at l i n = tabulate (λ (k : ℕ). record_at l (i + k)) n

-- the next record if there is one to take, and those behind
unfoldable pub next_of : Bool → List Record → Record
next_of true (r ∷ l) = r
next_of true [] = empty_record
next_of false l = empty_record

unfoldable pub rest_of : Bool → List Record → List Record
rest_of b l = drop (bit b) l

-- the edges of the first i records
unfoldable pub children_before : Bytes → ℕ → ℕ
children_before l zero = 0
children_before l (suc i) = children_before l i + children (record_at l i)

-- ---- Flags: which of two sets has something, kept as a record 2·in_second + in_first
pub record Flag : Type 0 where
  pub in_first : Bool
  pub in_second : Bool

-- a record as a flag, and back
unfoldable pub flag_of_record : Record → Flag
flag_of_record r = record { in_first = r.on_one; in_second = r.on_zero }

unfoldable pub record_of_flag : Flag → Record
record_of_flag f = record { on_zero = f.in_second; on_one = f.in_first }

unfoldable pub flag_at : Bytes → ℕ → Flag
flag_at q j = flag_of_record (record_at q j)

-- the first n, and n from place j on
unfoldable pub flags_to : Bytes → ℕ → List Flag
flags_to q n = tabulate (flag_at q) n

unfoldable pub flags_from : Bytes → ℕ → ℕ → List Flag
flags_from q j n = tabulate (λ (k : ℕ). flag_at q (j + k)) n

-- the flag of a prefix, if either has it
unfoldable pub flag_if : Bool → Bool → List Flag
flag_if a b = cond (a || b) (record { in_first = a; in_second = b } ∷ []) []

-- how many flags say that the first, the second has it
unfoldable pub first_count : List Flag → ℕ
first_count [] = 0
first_count (f ∷ fs) = bit f.in_first + first_count fs

unfoldable pub second_count : List Flag → ℕ
second_count [] = 0
second_count (f ∷ fs) = bit f.in_second + second_count fs

-- the flag is w: 1 in the first only, 2 in the second only, 3 in both
unfoldable pub is_flag : ℕ → Flag → Bool
is_flag w f = eqb (bit f.in_first + bit f.in_second * 2) w

-- ---- Written
-- a byte whose record k is set to z
unfoldable pub with_record : ℕ → ℕ → ℕ → ℕ
with_record x k z = x - x / 2 ^ (6 - 2 * k) % 4 * 2 ^ (6 - 2 * k) + z * 2 ^ (6 - 2 * k)

-- record i of o is set to z
pub record Put (i z : ℕ) (o p : Bytes) : Type 0 where
  pub size : length p ≡ length o
  pub here : record_at p i ≡ record_of_code z
  pub other : (j : ℕ) → (j ≡ i → ⊥) → record_at p j ≡ record_at o j

-- record z is put behind the first n, if it has an edge; then there are end
pub record Pushed (n z : ℕ) (o p : Bytes) (end : ℕ) : Type 0 where
  pub records : records_to p end ≡ records_to o n ++ those has_edge (record_of_code z ∷ [])
  pub count : end ≡ n + bit (has_edge (record_of_code z))
  pub size : length p ≡ length o

-- the first k records, and what is left of their last byte cleared
pub record Sealed (k : ℕ) (o p : Bytes) : Type 0 where
  pub bytes : take (started 8 (2 * k)) p ≡ pack_bits (bits_in o (2 * k))
  pub size : length p ≡ length o

-- the first b bits are these, and what is left of their last byte is clear: of an entry's edges, the body of field 4
pub record Packed (e : List Bool) (o p : Bytes) (b : ℕ) : Type 0 where
  pub count : b ≡ length e
  pub bytes : take (started 8 b) p ≡ pack_bits e
  pub size : length p ≡ length o
