use Rattle.std.proofs.Common.{arith, ◌∙◌, sym, refl, below_more}
use mathlib.Core.Bool.{false≢true}
use Rattle.encoding.proofs.levels_empty.Goals as goal

pub returns-then-number-ne0 : goal.returns-then-number-ne0
returns-then-number-ne0 c = (λ z. absurd (false≢true z), λ p. absurd (c.if-number-ne0.true (c.number.ensures.0 ∙ p c.loop-d.d c.loop-d-test.true)))

pub loop-d-preserved : goal.loop-d-preserved
loop-d-preserved c = below_more _ _ c.loop-d.invariant (sym c.number.ensures.0 ∙ c.if-number-ne0.false)

pub returns : goal.returns
returns c = (λ z d h. c.loop-d.invariant d (omega arith), λ p. refl)
