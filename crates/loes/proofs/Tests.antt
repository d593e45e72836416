-- Tests that compute, as facts; tests in a list.
use mathlib.Core.Path.{◌≡◌, refl, sym, ap₂, subst}
use Prim.Native.Nat.{ℕ, ◌≤◌, ◌<◌}
use mathlib.Core.Bool.{Bool, true, false, ◌&&◌, ◌||◌, not, false≢true}
use mathlib.Core.List.{List, [], ◌∷◌, ◌++◌}
use mathlib.Core.Option.{Option, none, some}
use native.Mathlib.Omega.{arith}
use lib.Dec.{T, eqb, ltb, eqb→eq, eqb_refl, ltb→lt, lt→ltb, nltb→le}
use Rattle.loes.specs.Bytes.{same_numbers}
use Rattle.loes.specs.Keys.{Key, same_key}
use Rattle.loes.specs.Refusals.{Tests, test, first_of}

is_true : (b : Bool) → T b → b ≡ true
is_true true h = refl
is_true false h = absurd h

is_T : (b : Bool) → b ≡ true → T b
is_T true h = tt
is_T false h = absurd (false≢true h)

is_not : (b : Bool) → b ≡ false → T (not b)
is_not false h = tt
is_not true h = absurd (false≢true (sym h))

pub lt_yes : (m n : ℕ) → m < n → ltb m n ≡ true
lt_yes m n h = is_true (ltb m n) (lt→ltb m n h)

pub yes_lt : (m n : ℕ) → ltb m n ≡ true → m < n
yes_lt m n h = ltb→lt m n (is_T (ltb m n) h)

pub no_lt : (m n : ℕ) → ltb m n ≡ false → n ≤ m
no_lt m n h = nltb→le m n (is_not (ltb m n) h)

pub lt_no : (m n : ℕ) → n ≤ m → ltb m n ≡ false
lt_no m n h = go (ltb m n) refl
  where
    go : (b : Bool) → ltb m n ≡ b → b ≡ false
    go true e = let l : m < n = yes_lt m n e in absurd (omega arith)
    go false e = refl

pub eq_yes : (n : ℕ) → eqb n n ≡ true
eq_yes n = is_true (eqb n n) (eqb_refl n)

pub yes_eq : (m n : ℕ) → eqb m n ≡ true → m ≡ n
yes_eq m n h = eqb→eq m n (is_T (eqb m n) h)

pub eq_no : (m n : ℕ) → (m ≡ n → ⊥) → eqb m n ≡ false
eq_no m n h = go (eqb m n) refl
  where
    go : (b : Bool) → eqb m n ≡ b → b ≡ false
    go true e = absurd (h (yes_eq m n e))
    go false e = refl

pub both : (a b : Bool) → (a && b) ≡ true → (a ≡ true) × (b ≡ true)
both true b h = (refl, h)
both false b h = absurd (false≢true h)

pub neither : (a b : Bool) → (a || b) ≡ false → (a ≡ false) × (b ≡ false)
neither true b h = absurd (false≢true (sym h))
neither false b h = (refl, h)

pub not_false : (b : Bool) → not b ≡ false → b ≡ true
not_false true h = refl
not_false false h = absurd (false≢true (sym h))

pub same_self : (l : List ℕ) → same_numbers l l ≡ true
unfolding same_numbers
same_self [] = refl
same_self (x ∷ l) = rw (eq_yes x, same_self l)

pub same_is : (l m : List ℕ) → same_numbers l m ≡ true → l ≡ m
unfolding same_numbers
same_is [] [] h = refl
same_is [] (y ∷ m) h = absurd (false≢true h)
same_is (x ∷ l) [] h = absurd (false≢true h)
same_is (x ∷ l) (y ∷ m) h =
    let r : (eqb x y ≡ true) × (same_numbers l m ≡ true) = both (eqb x y) (same_numbers l m) h in
    ap₂ ◌∷◌ (yes_eq x y r.0) (same_is l m r.1)

pub same_refl : (k : Key) → same_key k k ≡ true
unfolding same_key
same_refl [] = refl
same_refl (false ∷ k) = same_refl k
same_refl (true ∷ k) = same_refl k

pub same_eq : (j k : Key) → same_key j k ≡ true → j ≡ k
unfolding same_key
same_eq [] [] h = refl
same_eq [] (b ∷ k) h = absurd (false≢true h)
same_eq (a ∷ j) [] h = absurd (false≢true h)
same_eq (false ∷ j) (false ∷ k) h = rw (same_eq j k h)
same_eq (false ∷ j) (true ∷ k) h = absurd (false≢true h)
same_eq (true ∷ j) (false ∷ k) h = absurd (false≢true h)
same_eq (true ∷ j) (true ∷ k) h = rw (same_eq j k h)

-- ---- No test holds
abbrev Some : Option ℕ → Type 0
Some none = ⊥
Some (some k) = Unit {0}

no_some : (k : ℕ) → some k ≡ none → ⊥
no_some k h = subst Some h tt

pub none_append : (a b : Tests) → first_of (a ++ b) ≡ none → (first_of a ≡ none) × (first_of b ≡ none)
unfolding first_of
none_append [] b h = (refl, h)
none_append (none ∷ a) b h = none_append a b h
none_append (some k ∷ a) b h = absurd (no_some k h)

pub none_test : (b : Bool) (k : ℕ) (l : Tests) → first_of (test b k ∷ l) ≡ none → (b ≡ false) × (first_of l ≡ none)
unfolding first_of test
none_test false k l h = (refl, h)
none_test true k l h = absurd (no_some k h)

-- ---- Tests behind tests
pub none_first : (a b : Tests) → first_of a ≡ none → first_of (a ++ b) ≡ first_of b
unfolding first_of
none_first [] b h = refl
none_first (none ∷ a) b h = none_first a b h
none_first (some k ∷ a) b h = absurd (no_some k h)

pub some_first : (a b : Tests) (k : ℕ) → first_of a ≡ some k → first_of (a ++ b) ≡ some k
unfolding first_of
some_first [] b k h = absurd (no_some k (sym h))
some_first (none ∷ a) b k h = some_first a b k h
some_first (some n ∷ a) b k h = h
