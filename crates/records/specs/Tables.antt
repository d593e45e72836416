-- What the filled tables tell of four records, or of two times four bits.
use Rattle.std.specs.Prelude.{◌≡◌, ℕ, ◌*◌, ◌/◌, ◌%◌, ◌^◌, ◌<◌, Bool, true, cond, List, [], ◌∷◌, ◌++◌, map, length, get_or, ltb, eqb}
use Rattle.loes.specs.Bytes.{Bytes}
use Rattle.loes.specs.Keys.{those}
use Rattle.loes.specs.Edges.{Record}
use Rattle.records.specs.Records.{has_edge, next_of, rest_of, Flag, flag_of_record, record_of_flag, flag_if, first_count, second_count, is_flag}
use Rattle.records.specs.Numbers.{records_of, bits_of}

-- what is read in entry i of a table of n is f i
pub record Ruled {A : Type 0} (read f : ℕ → A) (n : ℕ) (t : List ℕ) : Type 0 where
  pub size : length t ≡ n
  pub rule : (i : ℕ) → i < n → read (get_or t i 0) ≡ f i

-- how many entries each has
abbrev pub spread_entries : ℕ
spread_entries = 4096

abbrev pub part_entries : ℕ
part_entries = 256

abbrev pub run_entries : ℕ
run_entries = 256

abbrev pub edged_entries : ℕ
edged_entries = 256

-- ---- Spread: entry 256·f + x
-- the next record where a bit is set, and none where it is clear
unfoldable pub spread : List Bool → List Record → List Record
spread [] xs = []
spread (b ∷ bs) xs = next_of b xs ∷ spread bs (rest_of b xs)

-- the records of x put where the bits of f are set
abbrev pub Spreads : Bytes → Type 0
Spreads t = Ruled (records_of 4) (λ (i : ℕ). spread (bits_of 4 (i / 256)) (records_of 4 (i % 256))) spread_entries t

-- ---- Parts: the four records of a byte
-- what is kept by test w: a record that has an edge, or a flag that is w (1, 2, 3)
abbrev pub by_edge : ℕ
by_edge = 0

unfoldable pub kept_by : ℕ → Record → Bool
kept_by w r = cond (eqb w by_edge) (has_edge r) (is_flag w (flag_of_record r))

-- which of four flags say that the first, the second has it, and how many; which of the four records are kept, by each test
pub record PartsTold : Type 0 where
  pub firsts : List Bool
  pub seconds : List Bool
  pub first : ℕ
  pub second : ℕ
  pub kept0 : List Bool
  pub kept1 : List Bool
  pub kept2 : List Bool
  pub kept3 : List Bool

-- eight numbers of four bits each: what is kept by test w stands at bit 16 + 4·w
unfoldable pub parts_in : ℕ → PartsTold
parts_in h = record {
  first = h % 16;
  seconds = bits_of 4 (h / 16 % 16);
  firsts = bits_of 4 (h / 256 % 16);
  second = h / 4096 % 16;
  kept0 = bits_of 4 (h / 65536 % 16);
  kept1 = bits_of 4 (h / 1048576 % 16);
  kept2 = bits_of 4 (h / 16777216 % 16);
  kept3 = bits_of 4 (h / 268435456 % 16);
}

unfoldable pub parts_of : List Record → PartsTold
parts_of l = record {
  first = first_count (map flag_of_record l);
  seconds = map (λ (r : Record). r.on_zero) l;
  firsts = map (λ (r : Record). r.on_one) l;
  second = second_count (map flag_of_record l);
  kept0 = map (kept_by 0) l;
  kept1 = map (kept_by 1) l;
  kept2 = map (kept_by 2) l;
  kept3 = map (kept_by 3) l;
}

abbrev pub Parted : List ℕ → Type 0
Parted t = Ruled parts_in (λ (i : ℕ). parts_of (records_of 4 i)) part_entries t

-- ---- Runs: entry 16·x + y
-- the flags of two lists of bits, side by side, that are in either
unfoldable pub either_flags : List Bool → List Bool → List Flag
either_flags [] ys = []
either_flags (x ∷ xs) [] = []
either_flags (x ∷ xs) (y ∷ ys) = flag_if x y ++ either_flags xs ys

-- a run of at most four records: 256 times its bits, and their number
pub record RunTold : Type 0 where
  pub records : List Record
  pub fits : Bool
  pub few : Bool
  pub whole : Bool

unfoldable pub run_in : ℕ → RunTold
run_in h = record {
  records = records_of (h / 256 / 2) (h % 256);
  fits = ltb (h % 256) (2 ^ (h / 256));
  few = ltb (h / 256) 9;
  whole = eqb (2 * (h / 256 / 2)) (h / 256);
}

unfoldable pub run_of : List Record → RunTold
run_of l = record { records = l; fits = true; few = true; whole = true }

-- the flags of the bits of x and of y
abbrev pub Runs : List ℕ → Type 0
Runs t = Ruled run_in (λ (i : ℕ). run_of (map record_of_flag (either_flags (bits_of 4 (i / 16)) (bits_of 4 (i % 16))))) run_entries t

-- ---- Edged: entry x
-- the run of those records of a byte that have an edge
abbrev pub Edged : List ℕ → Type 0
Edged t = Ruled run_in (λ (i : ℕ). run_of (those has_edge (records_of 4 i))) edged_entries t
