-- Keys (document 01: tickets), their order, and sets of them.
use Rattle.std.specs.Prelude.{ℕ, zero, suc, Bool, true, false, ◌&&◌, ◌||◌, cond, not, List, [], ◌∷◌, ◌++◌, map, length}

-- a key of m bits is a list of m bits, bit 0 first
abbrev pub Key : Type 0
Key = List Bool

-- a set is told by which keys it has
abbrev pub KeySet : Type 0
KeySet = Key → Bool

-- ---- Lists
-- those that a test takes, in the same order
unfoldable pub those : {A : Type 0} → (A → Bool) → List A → List A
those f [] = []
those f (x ∷ xs) = cond (f x) (x ∷ those f xs) (those f xs)

-- whether the test takes one at all
unfoldable pub any_of : {A : Type 0} → (A → Bool) → List A → Bool
any_of f [] = false
any_of f (x ∷ xs) = f x || any_of f xs

-- ---- Keys
abbrev pub same_bit : Bool → Bool → Bool
same_bit true b = b
same_bit false b = not b

unfoldable pub same_key : Key → Key → Bool
same_key [] [] = true
same_key [] (b ∷ k) = false
same_key (a ∷ j) [] = false
same_key (a ∷ j) (b ∷ k) = same_bit a b && same_key j k

-- lexicographic order of keys of one width, from bit 0
unfoldable pub less : Key → Key → Bool
less [] k = false
less (a ∷ j) [] = false
less (false ∷ j) (false ∷ k) = less j k
less (false ∷ j) (true ∷ k) = true
less (true ∷ j) (false ∷ k) = false
less (true ∷ j) (true ∷ k) = less j k

-- p is a prefix (document 01: beginning) of k
unfoldable pub is_prefix : Key → Key → Bool
is_prefix [] k = true
is_prefix (a ∷ p) [] = false
is_prefix (a ∷ p) (b ∷ k) = same_bit a b && is_prefix p k

-- all keys of m bits, in lexicographic order
unfoldable pub all_keys : ℕ → List Key
all_keys zero = [] ∷ []
all_keys (suc m) = map (λ (k : Key). false ∷ k) (all_keys m) ++ map (λ (k : Key). true ∷ k) (all_keys m)

-- ---- Sets
-- the set's keys of m bits, in order
unfoldable pub members : ℕ → KeySet → List Key
members m s = those s (all_keys m)

-- how many keys of a list are smaller than k
unfoldable pub smaller : Key → List Key → ℕ
smaller k l = length (those (λ (j : Key). less j k) l)

-- the set of the keys of a list
unfoldable pub set_of : List Key → KeySet
set_of l k = any_of (same_key k) l

-- the keys in either set
unfoldable pub either : KeySet → KeySet → KeySet
either s t k = s k || t k

-- the keys in the first set but not in the second
unfoldable pub without : KeySet → KeySet → KeySet
without s t k = s k && not (t k)

-- the keys in both sets
unfoldable pub in_both : KeySet → KeySet → KeySet
in_both s t k = s k && t k
