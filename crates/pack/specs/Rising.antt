-- Keys in rising order, and what one key more adds to their set.
use Rattle.std.specs.Prelude.{◌≡◌, ℕ, zero, suc, ◌<◌, false, cond, [], ◌∷◌, length}
use Rattle.loes.specs.Bytes.{tabulate}
use Rattle.loes.specs.Keys.{Key, KeySet, same_bit, less, set_of}

-- how many bits two keys agree in, from the first on
unfoldable pub common_prefix : Key → Key → ℕ
common_prefix [] k = 0
common_prefix (a ∷ j) [] = 0
common_prefix (a ∷ j) (b ∷ k) = cond (same_bit a b) (suc (common_prefix j k)) 0

-- of keys f 0, f 1, … that rise: the least length of which f i has a prefix that none before it has; one more than all its bits if it equals the one before
unfoldable pub first_new : (ℕ → Key) → ℕ → ℕ
first_new f zero = 0
first_new f (suc i) = suc (common_prefix (f i) (f (suc i)))

-- the set of f 0 … f (n - 1)
unfoldable pub set_below : (ℕ → Key) → ℕ → KeySet
set_below f n = set_of (tabulate f n)

-- the first n have m bits and rise
pub record Rising (m n : ℕ) (f : ℕ → Key) : Type 0 where
  pub wide : (i : ℕ) → i < n → length (f i) ≡ m
  pub rise : (i : ℕ) → suc i < n → less (f (suc i)) (f i) ≡ false
