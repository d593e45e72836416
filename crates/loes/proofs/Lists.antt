-- filter, any, map and ones over ++ and over one another; set bits and rank; a part that goes to the end.
use mathlib.Core.Path.{◌≡◌, refl, sym, ◌∙◌}
use Prim.Native.Nat.{ℕ, zero, suc, ◌+◌, ◌-◌, ◌*◌, ◌≤◌, ◌<◌}
use mathlib.Core.Bool.{Bool, true, false, ◌||◌, cond, or_assoc}
use mathlib.Core.List.{List, [], ◌∷◌, ◌++◌, map}
use native.Mathlib.Omega.{arith}
use native.Mathlib.Decide.{le_ind}
use lib.ListN.{length, take, drop, get_or, length-drop}
use lib.Seq.{take_all}
use Rattle.loes.specs.Bytes.{bit}
use Rattle.loes.specs.Keys.{those, any_of}
use Rattle.loes.specs.Edges.{Record, record_bits, ones, rank}

pub those_append : {A : Type 0} (f : A → Bool) (l r : List A) → those f (l ++ r) ≡ those f l ++ those f r
unfolding those
those_append f [] r = refl
those_append f (x ∷ l) r =
    elim (f x) as (λ b. cond b (x ∷ those f (l ++ r)) (those f (l ++ r)) ≡ cond b (x ∷ those f l) (those f l) ++ those f r)
    [ true ↦ rw (those_append f l r) | false ↦ those_append f l r ]

pub those_map : {A B : Type 0} (f : B → Bool) (g : A → B) (l : List A) → those f (map g l) ≡ map g (those (λ x. f (g x)) l)
unfolding those
those_map f g [] = refl
those_map f g (x ∷ l) =
    elim (f (g x)) as (λ b. cond b (g x ∷ those f (map g l)) (those f (map g l)) ≡ map g (cond b (x ∷ those (λ x. f (g x)) l) (those (λ x. f (g x)) l)))
    [ true ↦ rw (those_map f g l) | false ↦ those_map f g l ]

pub any_of_append : {A : Type 0} (f : A → Bool) (l r : List A) → any_of f (l ++ r) ≡ (any_of f l || any_of f r)
unfolding any_of
any_of_append f [] r = refl
any_of_append f (x ∷ l) r = rw (any_of_append f l r) (sym (or_assoc (f x) (any_of f l) (any_of f r)))

pub any_of_map : {A B : Type 0} (f : B → Bool) (g : A → B) (l : List A) → any_of f (map g l) ≡ any_of (λ x. f (g x)) l
unfolding any_of
any_of_map f g [] = refl
any_of_map f g (x ∷ l) = rw (any_of_map f g l)

pub any_of_none : {A : Type 0} (l : List A) → any_of (λ (x : A). false) l ≡ false
unfolding any_of
any_of_none [] = refl
any_of_none (x ∷ l) = any_of_none l

pub ones_append : (l r : List Bool) → ones (l ++ r) ≡ ones l + ones r
unfolding ones
ones_append [] r = omega arith
ones_append (true ∷ l) r = rw (ones_append l r) (omega arith)
ones_append (false ∷ l) r = ones_append l r

pub ones_le : (l : List Bool) → ones l ≤ length l
unfolding ones
ones_le [] = omega arith
ones_le (true ∷ l) = omega (arith, ones_le l)
ones_le (false ∷ l) = omega (arith, ones_le l)

pub rank_le : (l : List Bool) (n : ℕ) → (rank l n ≤ n) × (rank l n ≤ length l)
unfolding rank ones
rank_le l zero = (omega arith, omega arith)
rank_le [] (suc n) = (omega arith, omega arith)
rank_le (true ∷ l) (suc n) = let r = rank_le l n in (omega (arith, r.0), omega (arith, r.1))
rank_le (false ∷ l) (suc n) = let r = rank_le l n in (omega (arith, r.0), omega (arith, r.1))

pub rank_suc : (l : List Bool) (n : ℕ) → rank l (suc n) ≡ rank l n + bit (get_or l n false)
unfolding rank ones
rank_suc [] zero = refl
rank_suc [] (suc n) = refl
rank_suc (true ∷ l) zero = refl
rank_suc (false ∷ l) zero = refl
rank_suc (true ∷ l) (suc n) = omega (arith, rank_suc l n)
rank_suc (false ∷ l) (suc n) = rank_suc l n

pub rank_set : (l : List Bool) (n : ℕ) → get_or l n false ≡ true → rank l (suc n) ≡ suc (rank l n)
rank_set l n h = rank_suc l n ∙ rw h (omega arith)

pub rank_empty : (l : List Bool) (n : ℕ) → get_or l n false ≡ false → rank l (suc n) ≡ rank l n
rank_empty l n h = rank_suc l n ∙ rw h (omega arith)

pub rank_more : (l : List Bool) (a b : ℕ) → a ≤ b → rank l a ≤ rank l b
rank_more l a b h = le_ind (λ (n : ℕ). rank l a ≤ rank l n) (omega arith) (λ n g i. omega (arith, i, rank_suc l n)) b h

pub bits_append : (l r : List Record) → record_bits (l ++ r) ≡ record_bits l ++ record_bits r
unfolding record_bits
bits_append [] r = refl
bits_append (x ∷ l) r = rw (bits_append l r)

pub length_bits : (l : List Record) → length (record_bits l) ≡ 2 * length l
unfolding record_bits
length_bits [] = refl
length_bits (x ∷ l) = rw (length_bits l) (omega arith)

pub those_none : {A : Type 0} (l : List A) → those (λ (x : A). false) l ≡ []
unfolding those
those_none [] = refl
those_none (x ∷ l) = those_none l

pub those_all : {A : Type 0} (l : List A) → those (λ (x : A). true) l ≡ l
unfolding those
those_all [] = refl
those_all (x ∷ l) = rw (those_all l)

pub length_those : {A : Type 0} (f : A → Bool) (l : List A) → length (those f l) ≤ length l
unfolding those
length_those f [] = omega arith
length_those f (x ∷ l) =
    elim (f x) as (λ b. length (cond b (x ∷ those f l) (those f l)) ≤ suc (length l))
    [ true ↦ omega (arith, length_those f l) | false ↦ omega (arith, length_those f l) ]

pub get_d_map_in : {A B : Type 0} (f : A → B) (l : List A) (i : ℕ) (d : A) (e : B) → i < length l → get_or (map f l) i e ≡ f (get_or l i d)
get_d_map_in f [] i d e h = absurd (omega arith)
get_d_map_in f (x ∷ l) zero d e h = refl
get_d_map_in f (x ∷ l) (suc i) d e h = get_d_map_in f l i d e (omega arith)

-- a part that goes to the end
pub rest_is : {A : Type 0} (l : List A) (n : ℕ) → take (length l - n) (drop n l) ≡ drop n l
rest_is l n = take_all (length l - n) (drop n l) (omega (arith, length-drop n l))
