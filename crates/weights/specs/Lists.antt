-- The lists of a join, member by member: the flags that merging leaves say which of two sets has each member of their union, in order.
use Rattle.std.specs.Prelude.{◌≡◌, ℕ, zero, suc, ◌+◌, ◌*◌, ◌/◌, ◌≤◌, ◌<◌, Bool, ◌&&◌, cond, [], ◌∷◌, ◌++◌, ℤ, ◌+ℤ◌, length, get_or}
use Rattle.loes.specs.Limits.{max_edges}
use Rattle.loes.specs.Bytes.{Bytes, tabulate, bits_in}
use Rattle.loes.specs.Keys.{any_of}
use Rattle.loes.specs.Entry.{edges_of}
use Rattle.loes.specs.Held.{entry_held}
use Rattle.records.specs.Records.{record_of_code, record_at, flag_at, flags_from, is_flag, first_count, second_count}
use Rattle.weights.specs.Weights.{Weights, no_weight, outside}

-- the entry at a place if it is to be taken, else nothing
unfoldable pub taken : Bool → Weights → ℕ → ℤ
taken b ws i = cond b (get_or ws i no_weight) no_weight

-- the weights of member i, whose flag is at place r + i: as many of the first list were taken before it as flags say that the first has
unfoldable pub first_at : Bytes → ℕ → Weights → ℕ → ℤ
first_at q r wa i = taken (flag_at q (r + i)).in_first wa (first_count (flags_from q r i))

unfoldable pub second_at : Bytes → ℕ → Weights → ℕ → ℤ
second_at q r wb i = taken (flag_at q (r + i)).in_second wb (second_count (flags_from q r i))

unfoldable pub sum_at : Bytes → ℕ → Weights → Weights → ℕ → ℤ
sum_at q r wa wb i = first_at q r wa i +ℤ second_at q r wb i

-- both have it, and the sum leaves 32 signed bits
unfoldable pub over_at : Bytes → ℕ → Weights → Weights → ℕ → Bool
over_at q r wa wb i = (flag_at q (r + i)).in_first && (flag_at q (r + i)).in_second && outside (sum_at q r wa wb i)

-- one of the first n
unfoldable pub any_below : (ℕ → Bool) → ℕ → Bool
any_below f n = any_of (λ (b : Bool). b) (tabulate f n)

-- the entries of those of the first n that only the first has
unfoldable pub kept_to : Bytes → ℕ → Weights → ℕ → Weights
kept_to q r wa zero = []
kept_to q r wa (suc i) = kept_to q r wa i ++ cond (is_flag 1 (flag_at q (r + i))) (first_at q r wa i ∷ []) []

-- n flags from place r on
pub record FlagsFit (q : Bytes) (r n : ℕ) : Type 0 where
  pub fits : r + n ≤ 4 * length q
  pub small : length q ≤ max_edges

-- b edge bits that hold an entry, with the flags of n members behind its records
pub record Flagged (m b n : ℕ) (q : Bytes) : Type 0 where
  pub positive : 0 < m
  pub same : edges_of (entry_held m b q) ≡ bits_in q b
  pub flags : FlagsFit q (b / 2) n

-- the flag of member i, read as f
pub record FlagRead (q : Bytes) (r i f : ℕ) : Type 0 where
  pub code : record_of_code f ≡ record_at q (r + i)
  pub low : f < 4
