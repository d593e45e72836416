-- Bytes read as words.
use Rattle.std.specs.Prelude.{◌≡◌, true, ℕ, zero, suc, ◌+◌, ◌*◌, ◌^◌, ◌≤◌, get_or}
use Rattle.loes.specs.Bytes.{Bytes, bits_in}
use Rattle.loes.specs.Edges.{ones}
use Rattle.bits.specs.Tables.{none_empty}

-- the first n bytes as one number, the first byte the lowest
unfoldable pub word_in : Bytes → ℕ → ℕ
word_in l zero = 0
word_in l (suc n) = get_or l n 0 * 2 ^ (8 * n) + word_in l n

-- the lower bit of each record of n bytes
unfoldable pub mask : ℕ → ℕ
mask zero = 0
mask (suc n) = mask n * 256 + 85

-- what is found in the first i bytes, word by word: n set bits, and the mask of a word as long as no record is empty
pub record Scanned (l : Bytes) (i full n : ℕ) : Type 0 where
  pub count : n ≡ ones (bits_in l (8 * i))
  pub within : full ≤ mask 8
  pub good : full ≡ mask 8 → none_empty (bits_in l (8 * i)) ≡ true
  pub bad : none_empty (bits_in l (8 * i)) ≡ true → full ≡ mask 8
