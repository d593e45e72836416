-- Sums of two entries, and the range of 32 signed bits.
use mathlib.Core.Path.{◌≡◌, sym, ◌∙◌}
use mathlib.Core.Bool.{Bool, true, false, not, or-false, false≢true}
use native.Mathlib.Omega.{arith}
use lib.Dec.{ltb}
use lib.IntN.{ℤ, pos, negsuc, ◌+ℤ◌}
use mir.Val.{to_z, of_z}
use mir.Facts.{to_z-of_z}
use Rattle.std.proofs.lemmas.Bool.{true_from_ne_false}
use Rattle.std.specs.Prelude.{Option, None, Some, SomeIff, is_some}
use mir.Syntax.{w32}
use mir.Val.{SFits}
use borrow.Author.Tests.{ltb-false, le-ltb}
use Rattle.weights.specs.Weights.{outside}

pub inside_fits : (s : ℤ) → outside s ≡ false → SFits w32 s
unfolding outside
inside_fits (pos n) e = record { sfits = omega (arith, ltb-false 2147483647 n e) }
inside_fits (negsuc n) e = record { sfits = omega (arith, ltb-false 2147483647 n (sym (or-false (ltb 2147483647 n)) ∙ e)) }

pub fits_inside : (s : ℤ) → SFits w32 s → outside s ≡ false
unfolding outside
fits_inside (pos n) e = le-ltb 2147483647 n (omega (arith, e.sfits))
fits_inside (negsuc n) e = or-false (ltb 2147483647 n) ∙ le-ltb 2147483647 n (omega (arith, e.sfits))

-- a sum of two numbers of 32 bits is told where it does not leave them
pub sum_told : (x y : ℤ) (r : Option ℤ) → SFits w32 x → SFits w32 y
    → SomeIff r (SFits w32 (to_z w32 (of_z w32 x) +ℤ to_z w32 (of_z w32 y))) (to_z w32 (of_z w32 x) +ℤ to_z w32 (of_z w32 y))
    → SomeIff r (outside (x +ℤ y) ≡ false) (x +ℤ y)
sum_told x y r f g h = go r (rw (to_z-of_z f, to_z-of_z g) at h)
  where
    go : (r : Option ℤ) → SomeIff r (SFits w32 (x +ℤ y)) (x +ℤ y) → SomeIff r (outside (x +ℤ y) ≡ false) (x +ℤ y)
    go None h = λ e. h (inside_fits (x +ℤ y) e)
    go (Some s) h = (fits_inside (x +ℤ y) h.0, h.1)

-- what was told of it: nothing, or the sum
pub told_none : (s : ℤ) (r : Option ℤ) (b : Bool) → SomeIff r (outside s ≡ false) s → is_some r ≡ not b → b ≡ outside s
told_none s None true h e = sym (true_from_ne_false (outside s) h)
told_none s None false h e = absurd (false≢true e)
told_none s (Some x) true h e = absurd (false≢true (sym e))
told_none s (Some x) false h e = sym h.0

pub told_some : (s x : ℤ) (r : Option ℤ) → SomeIff r (outside s ≡ false) s → r ≡ Some x → (outside s ≡ false) × ((x ≡ s) × SFits w32 x)
told_some s x r h e =
    let g : SomeIff (Some x) (outside s ≡ false) s = rw e at h in
    (g.0, (g.1, rw g.1 (inside_fits s g.0)))
