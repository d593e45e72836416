-- What is computed of each number below a bound.
use mathlib.Core.Path.{◌≡◌}
use Prim.Native.Nat.{ℕ, zero, suc, ◌+◌, ◌<◌}
use mathlib.Core.List.{List, [], ◌∷◌}
use native.Mathlib.Omega.{arith}

-- n values of f, from i on
unfoldable pub each : {A : Type 0} → (ℕ → A) → ℕ → ℕ → List A
each f i zero = []
each f i (suc n) = f i ∷ each f (suc i) n

-- the same at each index from i on
each_from : {A : Type 0} (f g : ℕ → A) (i n : ℕ) → each f i n ≡ each g i n → (k : ℕ) → k < n → f (i + k) ≡ g (i + k)
unfolding each
each_from f g i zero e k h = absurd (omega arith)
each_from f g i (suc n) e zero h =
    let z : i + 0 ≡ i = omega arith in
    let a : f i ≡ g i = cc in
    rw z a
each_from f g i (suc n) e (suc k) h =
    let z : i + suc k ≡ suc i + k = omega arith in
    let b : each f (suc i) n ≡ each g (suc i) n = cc in
    rw z (each_from f g (suc i) n b k (omega arith))

-- functions whose first n values compute to the same are the same at each of them
pub each_at : {A : Type 0} (f g : ℕ → A) (n : ℕ) → each f 0 n ≡ each g 0 n → (i : ℕ) → i < n → f i ≡ g i
each_at f g n e i h = let z : 0 + i ≡ i = omega arith in rw z at (each_from f g 0 n e i h)
