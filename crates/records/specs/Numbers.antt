-- Records in numbers: several at a time.
use Rattle.std.specs.Prelude.{◌≡◌, ℕ, zero, suc, ◌+◌, ◌*◌, ◌/◌, ◌%◌, ◌^◌, ◌<◌, ◌≤◌, Bool, List, [], ◌∷◌, ◌++◌, length}
use Rattle.loes.specs.Bytes.{Bytes, odd}
use Rattle.loes.specs.Edges.{Record}
use Rattle.records.specs.Records.{record_of_code, records_to}

-- n records, and n bits, of a number, the last in the lowest places
unfoldable pub records_of : ℕ → ℕ → List Record
records_of zero x = []
records_of (suc n) x = records_of n (x / 4) ++ record_of_code (x % 4) ∷ []

unfoldable pub bits_of : ℕ → ℕ → List Bool
bits_of zero x = []
bits_of (suc n) x = bits_of n (x / 2) ++ odd x ∷ []

-- the eight records of a window, in the upper 16 of 64 bits
unfoldable pub eight_of : ℕ → List Record
eight_of x = records_of 8 (x / 2 ^ 48)

-- a run: b bits of x, two to a record, of at most n records
abbrev pub Short : ℕ → ℕ → ℕ → Type 0
Short n x b = (x < 2 ^ b) × (b ≤ 2 * n) × (2 * (b / 2) ≡ b)

-- n records of a number put behind the first k
pub record Appended (k n w : ℕ) (o p : Bytes) : Type 0 where
  pub records : records_to p (k + n) ≡ records_to o k ++ records_of n w
  pub size : length p ≡ length o

-- a window that begins at a record reads at most so many: four bytes of them
abbrev pub overread : ℕ
overread = 16

-- a run put behind a record writes at most so many: eight bytes of them
abbrev pub overwrite : ℕ
overwrite = 32
