-- The constant tables, as they are lent: set-bit places, and tallies of bytes.
use Rattle.std.specs.Prelude.{◌≡◌, ℕ, zero, suc, ◌-◌, ◌*◌, ◌/◌, ◌%◌, ◌^◌, ◌<◌, Bool, true, false, ◌&&◌, ◌||◌, List, [], ◌∷◌, length, get_or}
use Rattle.loes.specs.Bytes.{odd, tabulate}
use Rattle.loes.specs.Edges.{ones}

-- the bits of a byte, the most significant first
unfoldable pub bits8 : ℕ → List Bool
bits8 v = tabulate (λ (j : ℕ). odd (v / 2 ^ (7 - j))) 8

-- the place of set bit number k, counted from 0, or the length where there is none
unfoldable pub select : List Bool → ℕ → ℕ
select [] k = 0
select (true ∷ e) zero = 0
select (true ∷ e) (suc k) = suc (select e k)
select (false ∷ e) k = suc (select e k)

-- the place of set bit number k of a byte, counted from 0 at the most significant bit, or 8 if it has none
abbrev pub place_of : ℕ → ℕ → ℕ
place_of x k = select (bits8 x) k

-- each record of a bit sequence has an edge
unfoldable pub none_empty : List Bool → Bool
none_empty [] = true
none_empty (a ∷ []) = true
none_empty (a ∷ b ∷ e) = (a || b) && none_empty e

-- the set bits of a byte
abbrev pub tally_of : ℕ → ℕ
tally_of x = ones (bits8 x)

-- digit k of eight hexadecimal digits, the first the highest
unfoldable pub digit : ℕ → ℕ → ℕ
digit r k = r / 2 ^ (4 * (7 - k)) % 16

-- a lent table has a row for each byte, whose digit k is the place of set bit number k
pub record Places (t : List ℕ) : Type 0 where
  pub size : length t ≡ 256
  pub rule : (x k : ℕ) → x < 256 → k < 8 → digit (get_or t x 0) k ≡ place_of x k

-- a lent table has n entries, entry i is f i
pub record Table (f : ℕ → ℕ) (n : ℕ) (t : List ℕ) : Type 0 where
  pub size : length t ≡ n
  pub rule : (i : ℕ) → i < n → get_or t i 0 ≡ f i

abbrev pub Tallies : List ℕ → Type 0
Tallies t = Table tally_of 256 t
