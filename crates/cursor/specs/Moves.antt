-- The next path from a path: where it turns, and what it takes below.
use Rattle.std.specs.Prelude.{◌≡◌, ℕ, ◌+◌, ◌-◌, ◌*◌, ◌/◌, ◌≤◌, ◌<◌, Bool, true, false, ◌&&◌, not, cond, List, get_or, length, eqb, ltb}
use Rattle.loes.specs.Bytes.{bit, odd}

-- an offset leads on from record r: it is one of the record's two, and set
unfoldable pub leads_on : List Bool → ℕ → ℕ → Bool
leads_on e r o = eqb (o / 2) r && get_or e o false

-- the two edges of record r as a number
unfoldable pub record_code : List Bool → ℕ → ℕ
record_code e r = 2 * bit (get_or e (2 * r) false) + bit (get_or e (2 * r + 1) false)

-- the next set bit is in the same record
unfoldable pub turns : List Bool → ℕ → Bool
turns e o = not (odd o) && get_or e (o + 1) false

-- the first set bit of record r
unfoldable pub first_edge : List Bool → ℕ → ℕ
first_edge e r = 2 * r + bit (not (get_or e (2 * r) false))

-- the offset behind q on level d of a path that turns on level t, from that level on
unfoldable pub behind : List Bool → ℕ → ℕ → ℕ → ℕ
behind e t d q = cond (eqb d t) (q + 1) (first_edge e (q / 2 + 1))

-- the path moved on: it turns on level t, and takes the next record on each greater level
unfoldable pub moved_on : List Bool → ℕ → (ℕ → ℕ) → ℕ → ℕ
moved_on e t f d = cond (ltb d t) (f d) (behind e t d (f d))

-- 1 more than the greatest level on which a path turns; 0 if it turns on none
pub record TurnsAt (e : List Bool) (m : ℕ) (os : List ℕ) (r : ℕ) : Type 0 where
  pub most : r ≤ m
  pub turn : 0 < r → turns e (get_or os (r - 1) 0) ≡ true
  pub stuck : (d : ℕ) → r ≤ d → d < m → turns e (get_or os d 0) ≡ false

-- the first m offsets moved on from a turn on level t, the others kept
pub record Moved (e : List Bool) (m t : ℕ) (os os' : List ℕ) : Type 0 where
  pub size : length os' ≡ length os
  pub on : (j : ℕ) → j < m → get_or os' j 0 ≡ moved_on e t (λ (i : ℕ). get_or os i 0) j
  pub rest : (j : ℕ) → m ≤ j → get_or os' j 0 ≡ get_or os j 0

-- the offset on level t is an edge's, and those on greater levels leave room for a record behind their own
pub record Movable (b m t : ℕ) (os : List ℕ) : Type 0 where
  pub level : t < m
  pub room : m ≤ length os
  pub small : get_or os t 0 < b
  pub next : (j : ℕ) → t < j → j < m → 2 * (get_or os j 0 / 2 + 1) < b
