-- Totals: of sums, of what a test takes, of two sets together, of a set less another, and of a list with one entry changed.
use mathlib.Core.Path.{◌≡◌, refl, sym, ap, ◌∙◌, fun_ext}
use Prim.Native.Nat.{ℕ, zero, suc, ◌<◌}
use mathlib.Core.Bool.{Bool, true, false, ◌&&◌, ◌||◌, cond, not}
use mathlib.Core.List.{List, [], ◌∷◌, map}
use native.Mathlib.Omega.{arith}
use lib.IntN.{ℤ, ◌+ℤ◌, ◌-ℤ◌, neg_ℤ, +ℤ_idl, +ℤ_idr, +ℤ_assoc, +ℤ_comm, neg_ℤ-+ℤ, +ℤ-neg_ℤ_cancel}
use lib.ListN.{length, get_or, set}
use Rattle.loes.specs.Keys.{those}
use Rattle.weights.specs.Weights.{Weights, no_weight, total}

-- ---- Sums
mix : (a b c d : ℤ) → (a +ℤ b) +ℤ (c +ℤ d) ≡ (a +ℤ c) +ℤ (b +ℤ d)
mix a b c d = rw (+ℤ_assoc a b (c +ℤ d), ← +ℤ_assoc b c d, +ℤ_comm b c, +ℤ_assoc c b d) (sym (+ℤ_assoc a c (b +ℤ d)))

pub add_differences : (a b c d : ℤ) → (a -ℤ b) +ℤ (c -ℤ d) ≡ (a +ℤ c) -ℤ (b +ℤ d)
add_differences a b c d = mix a (neg_ℤ b) c (neg_ℤ d) ∙ ap (λ x. (a +ℤ c) +ℤ x) (sym (neg_ℤ-+ℤ b d))

pub add_before : (a b x : ℤ) → (a -ℤ b) +ℤ x ≡ (a +ℤ x) -ℤ b
add_before a b x = rw (+ℤ_assoc a (neg_ℤ b) x, +ℤ_comm (neg_ℤ b) x) (sym (+ℤ_assoc a x (neg_ℤ b)))

-- what x is, if with y it is a - b
pub without_part : (x y a b : ℤ) → x +ℤ y ≡ a -ℤ b → x ≡ a -ℤ (b +ℤ y)
without_part x y a b h = sym (+ℤ-neg_ℤ_cancel x y) ∙ ap (λ z. z -ℤ y) h ∙ +ℤ_assoc a (neg_ℤ b) (neg_ℤ y) ∙ ap (λ z. a +ℤ z) (sym (neg_ℤ-+ℤ b y))

-- ---- Totals
pub total_set : (l : Weights) (i : ℕ) (x : ℤ) → i < length l → total (set l i (get_or l i no_weight +ℤ x)) ≡ total l +ℤ x
unfolding total
total_set [] i x h = absurd (omega arith)
total_set (y ∷ l) zero x h = rw (+ℤ_assoc y x (total l), +ℤ_comm x (total l)) (sym (+ℤ_assoc y (total l) x))
total_set (y ∷ l) (suc i) x h = rw (total_set l i x (omega arith)) (sym (+ℤ_assoc y (total l) x))

module _ {A : Type 0} where
  total_sum : (w v : A → ℤ) (l : List A) → total (map w l) +ℤ total (map v l) ≡ total (map (λ k. w k +ℤ v k) l)
  unfolding total
  total_sum w v [] = refl
  total_sum w v (k ∷ l) = mix (w k) (total (map w l)) (v k) (total (map v l)) ∙ ap (λ x. (w k +ℤ v k) +ℤ x) (total_sum w v l)

  -- what a test does not take counts as nothing
  total_those : (w : A → ℤ) (s : A → Bool) (l : List A) → total (map w (those s l)) ≡ total (map (λ k. cond (s k) (w k) no_weight) l)
  unfolding total those
  total_those w s [] = refl
  total_those w s (k ∷ l) =
      elim (s k) as (λ b. total (map w (cond b (k ∷ those s l) (those s l))) ≡ cond b (w k) no_weight +ℤ total (map (λ k. cond (s k) (w k) no_weight) l))
      [ true ↦ ap (λ x. w k +ℤ x) (total_those w s l) | false ↦ total_those w s l ∙ sym (+ℤ_idl _) ]

  pub total_nothing : (l : List A) → total (map (λ (k : A). no_weight) l) ≡ no_weight
  unfolding total
  total_nothing [] = refl
  total_nothing (k ∷ l) = +ℤ_idl _ ∙ total_nothing l

  -- what two sets have, if each has nothing outside it
  pub total_either : (w v : A → ℤ) (s t : A → Bool) (l : List A) → ((k : A) → s k ≡ false → w k ≡ no_weight) → ((k : A) → t k ≡ false → v k ≡ no_weight)
      → total (map (λ k. w k +ℤ v k) (those (λ k. s k || t k) l)) ≡ total (map w (those s l)) +ℤ total (map v (those t l))
  total_either w v s t l f g =
      rw (total_those w s l, total_those v t l, total_those (λ k. w k +ℤ v k) (λ k. s k || t k) l, total_sum (λ k. cond (s k) (w k) no_weight) (λ k. cond (t k) (v k) no_weight) l)
      (ap (λ u. total (map u l)) (fun_ext (λ k. go k (s k) (t k) refl refl)))
    where
      go : (k : A) (p q : Bool) → s k ≡ p → t k ≡ q → cond (p || q) (w k +ℤ v k) no_weight ≡ cond p (w k) no_weight +ℤ cond q (v k) no_weight
      go k true true y z = refl
      go k true false y z = rw (g k z)
      go k false true y z = rw (f k y)
      go k false false y z = refl

  -- what is left and what is dropped
  pub total_without : (w : A → ℤ) (s t : A → Bool) (l : List A)
      → total (map w (those (λ k. s k && not (t k)) l)) +ℤ total (map w (those t (those s l))) ≡ total (map w (those s l))
  total_without w s t l =
      rw (total_those w t (those s l), total_those (λ k. cond (t k) (w k) no_weight) s l, total_those w s l, total_those w (λ k. s k && not (t k)) l)
      (total_sum (λ k. cond (s k && not (t k)) (w k) no_weight) (λ k. cond (s k) (cond (t k) (w k) no_weight) no_weight) l
      ∙ ap (λ u. total (map u l)) (fun_ext (λ k. go k (s k) (t k))))
    where
      go : (k : A) (p q : Bool) → cond (p && not q) (w k) no_weight +ℤ cond p (cond q (w k) no_weight) no_weight ≡ cond p (w k) no_weight
      go k true true = +ℤ_idl (w k)
      go k true false = +ℤ_idr (w k)
      go k false q = refl
