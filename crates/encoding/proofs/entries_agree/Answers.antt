use Rattle.std.proofs.Common.{rules, arith, ◌≡◌, ◌+◌, ◌-◌, ◌*◌, ◌/◌, ◌∙◌, sym, eq-eqb}
use mathlib.Core.Bool.{false≢true}
use Rattle.loes.specs.Bytes.{number_at}
use Rattle.loes.proofs.Tests.{yes_eq}
use Rattle.encoding.proofs.Pass.{entries_room}
use Rattle.encoding.proofs.entries_agree.Goals as goal
use Rattle.encoding.proofs.entries_agree.Goals.{then-j-eq0+else-number-n, else-j-eq0}

pub number-requires : goal.number-requires
number-requires c = (search rules, omega (arith, (entries_room _ _ c.args.j c.requires.0 c.requires.1).0))

pub returns-then-number-n : goal.returns-then-number-n
returns-then-number-n c = (λ z. absurd (false≢true z), λ p. absurd (c.if-number-n.true (c.number.ensures.0 ∙ p.1 c.if-j-eq0.true)))

pub number-requires-2 : goal.number-requires-2
number-requires-2 c = (search rules, omega (arith, (entries_room _ _ c.args.j c.requires.0 c.requires.1).1))

pub returns : goal.returns
returns c =
    let a = c.args in
    let d = c.requires.2 in
    -- the block's entry is read here or was at the block's first sub-block
    let block : number_at 8 a.l.now (a.e.blocks + 8 * (a.j / 128)) ≡ a.base =
    elim c.if-j-eq0.branch [ then-j-eq0+else-number-n w ↦ sym w.number.ensures.0 ∙ w.if-number-n.false ∙ sym (d.first w.if-j-eq0.true) | else-j-eq0 w ↦ d.later w.if-j-eq0.false ] in
    (λ z. let q = yes_eq _ (a.n - a.base) z in (omega (arith, q, c.number-2.ensures.0, block, d.below), λ w. block ∙ d.first w), λ p. eq-eqb _ (a.n - a.base) (omega (arith, p.0, c.number-2.ensures.0, block)))
