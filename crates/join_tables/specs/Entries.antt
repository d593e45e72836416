-- What the loops put into the entries of the tables, as numbers.
use Rattle.std.specs.Prelude.{◌≡◌, ℕ, ◌+◌, ◌-◌, ◌*◌, ◌/◌, ◌%◌, ◌^◌, ◌≤◌, ◌<◌, List, get_or, cond, eqb}
use Rattle.std.specs.Int.Bits.{bit_and, bit_or}

-- the entries from m up to n are what code says
abbrev pub FilledFrom : (ℕ → ℕ) → ℕ → ℕ → List ℕ → Type 0
FilledFrom code m n t = (i : ℕ) → m ≤ i → i < n → get_or t i 0 ≡ code i

-- ---- Spread
-- the first two records from x / 2^s, the last two from x / 2^r, and of the four what m keeps
unfoldable pub spread_in : ℕ → ℕ → ℕ → ℕ → ℕ
spread_in x s r m = bit_and (bit_or (bit_and (x / 2 ^ s) 240) (bit_and (x / 2 ^ r) 15)) m

-- as the four bits of f ask: each bit that is set takes the next record
unfoldable pub spread_by : ℕ → ℕ → ℕ
spread_by f x = spread_in x (2 - 2 * (f / 8)) (6 - 2 * (f / 8 + f / 4 % 2 + f / 2 % 2)) (192 * (f / 8) + 48 * (f / 4 % 2) + 12 * (f / 2 % 2) + 3 * (f % 2))

-- entry 256·f + x
unfoldable pub spread_code : ℕ → ℕ
spread_code i = spread_by (i / 256) (i % 256)

-- ---- Parts
-- an entry with one more record that has no edge: all fields but the two counts double (0xffff0ff0)
unfoldable pub part_more : ℕ → ℕ
part_more e = e + bit_and e 4294905840

-- what record c adds: one in the fields that tell of it (0x00110101, 0x01011010, 0x10011111)
unfoldable pub own_part : ℕ → ℕ
own_part c = cond (eqb c 1) 1114369 (cond (eqb c 2) 16846864 (cond (eqb c 3) 268505361 0))

-- entry i, from its four records
unfoldable pub part_code : ℕ → ℕ
part_code i = part_more (part_more (part_more (own_part (i / 64)) + own_part (i / 16 % 4)) + own_part (i / 4 % 4)) + own_part (i % 4)

-- ---- Runs
-- a run with one more record behind, of no edge yet
unfoldable pub run_more : ℕ → ℕ
run_more e = e + e % 256 * 3 + 512

-- a run with the record c behind, if it has an edge
unfoldable pub run_with : ℕ → ℕ → ℕ
run_with e c = cond (eqb c 0) e (run_more e + c)

-- entry i, from its bits: those of x, and of y
unfoldable pub run_code : ℕ → ℕ
run_code i =
    run_with
    (run_with (run_with (run_with 0 (i / 128 + i / 8 % 2 * 2)) (i / 64 % 2 + i / 4 % 2 * 2)) (i / 32 % 2 + i / 2 % 2 * 2))
    (i / 16 % 2 + i % 2 * 2)
