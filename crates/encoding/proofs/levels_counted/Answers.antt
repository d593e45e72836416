use Rattle.std.proofs.Common.{arith, ◌≡◌, sym, ◌∙◌, refl, below_more}
use mathlib.Core.Bool.{false≢true}
use Rattle.loes.specs.Read.{level_at}
use Rattle.encoding.proofs.Levels.{level_first, end_few, end_here, level_next}
use Rattle.encoding.proofs.levels_counted.Goals as goal

pub loop-d-init : goal.loop-d-init
loop-d-init c = (level_first _ _ _, λ i h. absurd (omega arith))

pub overflow_add-roots : goal.overflow_add-roots
overflow_add-roots c = let h = c.loop-d in omega (arith, c.roots_of-roots.ensures.1, end_few c.args.l.now c.args.e h.d h.from h.start h.n _ _ c.requires.0.few h.invariant.0 c.ones_on-n.ensures c.roots_of-roots.ensures.0)

pub overflow_mul-roots : goal.overflow_mul-roots
overflow_mul-roots c = let h = c.loop-d in omega (arith, c.roots_of-roots.ensures.1, end_few c.args.l.now c.args.e h.d h.from h.start h.n _ _ c.requires.0.few h.invariant.0 c.ones_on-n.ensures c.roots_of-roots.ensures.0)

pub returns-then-end-roots : goal.returns-then-end-roots
returns-then-end-roots c =
    let h = c.loop-d in
    let claim : c.number-end.result ≡ level_at c.args.l.now h.d = c.number-end.ensures.0 in
    let here = end_here c.args.l.now c.args.e h.d h.from h.start h.n _ _ c.requires.0.few h.invariant.0 c.ones_on-n.ensures c.roots_of-roots.ensures.0 in
    (λ z. absurd (false≢true z), λ p. absurd (c.if-end-roots.true (claim ∙ p h.d c.loop-d-test.true ∙ sym here)))

pub loop-d-preserved : goal.loop-d-preserved
loop-d-preserved c =
    let h = c.loop-d in
    let claim : c.number-end.result ≡ level_at c.args.l.now h.d = c.number-end.ensures.0 in
    let here = end_here c.args.l.now c.args.e h.d h.from h.start h.n _ _ c.requires.0.few h.invariant.0 c.ones_on-n.ensures c.roots_of-roots.ensures.0 in (
      rw c.min-start.ensures (level_next c.args.l.now c.args.e h.d h.from h.start h.n _ _ c.requires.0.few h.invariant.0 c.ones_on-n.ensures c.roots_of-roots.ensures.0 _ c.if-end-roots.false),
      below_more _ _ h.invariant.1 (sym claim ∙ c.if-end-roots.false ∙ here),
    )

pub returns : goal.returns
returns c = (λ z d h. c.loop-d.invariant.1 d (omega arith), λ p. refl)
