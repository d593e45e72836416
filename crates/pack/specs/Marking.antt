-- Records counted by level, and bits set in edge bytes.
use Rattle.std.specs.Prelude.{◌≡◌, ℕ, zero, suc, ◌+◌, ◌-◌, ◌/◌, ◌%◌, ◌^◌, ◌*◌, ◌<◌, ◌≤◌, true, cond, List, length, get_or, set, leb, Result, Ok, Err}
use Rattle.loes.specs.Limits.{max_edges}
use Rattle.loes.specs.Bytes.{Bytes, bit, bit_at, tabulate}
use Rattle.loes.specs.Entry.{key_bytes}
use Rattle.loes.specs.declared.refusal.Refusal.{Refusal}
use Rattle.loes.specs.declared.refusal.Refusal.TheVariants.{TooLarge}

-- one more from a level on
pub record Bumped (from m : ℕ) (old new : List ℕ) : Type 0 where
  pub long : length new ≡ length old
  pub each : (e : ℕ) → e < m → get_or new e 0 ≡ get_or old e 0 + bit (leb from e)

-- the first d of a list of numbers, added
unfoldable pub sum_below : List ℕ → ℕ → ℕ
sum_below l zero = 0
sum_below l (suc d) = sum_below l d + get_or l d 0

-- what is noted at a level and before it, for each of m levels
unfoldable pub running : List ℕ → ℕ → List ℕ
running l m = tabulate (λ (e : ℕ). sum_below l (suc e)) m

-- so many records have room: two bits each
abbrev pub max_records : ℕ
max_records = max_edges / 2

-- of the records of each of m levels: those before it, and how many there are in all, unless there is no room for so many
abbrev pub Starts : ℕ → List ℕ → List ℕ → Result ℕ Refusal → Type 0
Starts m counts starts (Ok r) = (r ≤ max_records) × (r ≡ sum_below counts m) × ((e : ℕ) → e < m → get_or starts e 0 ≡ sum_below counts e)
Starts m counts starts (Err k) = (k ≡ TooLarge) × (max_records < sum_below counts m)

-- bytes with bit o set
unfoldable pub set_bit : Bytes → ℕ → Bytes
set_bit l o = cond (bit_at l o) l (set l (o / 8) (get_or l (o / 8) 0 + 2 ^ (7 - o % 8)))

-- bytes with the bits o from, o (from + 1), … set, n of them
unfoldable pub set_bits : (ℕ → ℕ) → ℕ → ℕ → Bytes → Bytes
set_bits o from zero l = l
set_bits o from (suc n) l = set_bit (set_bits o from n l) (o (from + n))

-- where a key's edge of level e is: its cursor is behind the level's last record, and moves from the first new level on
unfoldable pub offset_of : List ℕ → ℕ → Bytes → ℕ → ℕ
offset_of cursors new key e = 2 * (get_or cursors e 0 + bit (leb new e) - 1) + bit (bit_at key e)

-- the second edge of each level's last record, from cursors behind it
unfoldable pub second_edges : List ℕ → ℕ → ℕ
second_edges cursors e = 2 * get_or cursors e 0 - 1

-- the level above the first new one, if there is one, has a last record, and it lies in the edge bytes
abbrev pub AboveFits : ℕ → List ℕ → Bytes → Type 0
AboveFits new cursors edges =
    0 < new → (new ≤ length cursors) × (0 < get_or cursors (new - 1) 0) × (2 * get_or cursors (new - 1) 0 ≤ 8 * length edges)

-- there is that record, and it lies in the edge bytes
pub record KeyFits (m new : ℕ) (key : Bytes) (cursors : List ℕ) (edges : Bytes) : Type 0 where
  pub far : key_bytes m ≤ length key
  pub long : m ≤ length cursors
  pub some : (e : ℕ) → e < m → 0 < get_or cursors e 0 + bit (leb new e)
  pub fit : (e : ℕ) → e < m → 2 * (get_or cursors e 0 + bit (leb new e)) ≤ 8 * length edges
  pub small : length edges ≤ max_edges / 8
  -- above its first new level the key goes on with 1
  pub later : 0 < new → new ≤ m → bit_at key (new - 1) ≡ true

-- ---- A level on which each key has a record of its own
-- of the records before each level: r is m, or level r, which is not the last, has n records
pub record Gap (m n : ℕ) (starts : List ℕ) (r : ℕ) : Type 0 where
  pub most : r ≤ m
  pub size : r < m → (suc r < m) × (get_or starts (suc r) 0 ≡ get_or starts r 0 + n)
