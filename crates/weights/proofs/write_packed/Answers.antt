use mathlib.Core.Path.{sym, ap, ◌∙◌}
use mathlib.Core.List.{[], ◌∷◌, ◌++◌}
use native.Mathlib.Omega.{arith}
use lib.ListN.{drop, length-replicate}
use lib.Seq.{length-take-le}
use borrow.Author.Rules.{rules}
use Rattle.std.proofs.lemmas.Result.{err_from_is_err_and}
use Rattle.loes.specs.Model.{wrote}
use Rattle.build.specs.Writing.{written_outcome}
use Rattle.weights.specs.Weights.{no_weight, leaving}
use Rattle.weights.specs.History.{changes}
use Rattle.weights.proofs.Held.{part_front}
use Rattle.weights.proofs.Packs.{zeros, with_zeros, weighted_short, as_packed}
use Rattle.weights.proofs.write_packed.Goals as goal

pub returns-then-list-n : goal.returns-then-list-n
returns-then-list-n c = sym (weighted_short c.args.m c.args.batch.now c.args.out.now c.args.list.now c.requires.0.accepted (omega (arith, c.if-list-n.true, c.count_members-n.ensures)))

pub returns-in_err-size : goal.returns-in_err-size
unfolding written_outcome with_zeros changes
returns-in_err-size c =
    let p = err_from_is_err_and c.from_residual.result c.from_residual.ensures.1 in
    rw (p.1, p.2)
    (as_packed c.args.m c.args.batch.now c.args.out.now c.args.list.now c.requires.0.accepted c.count_members-n.result _ c.count_members-n.ensures c.if-list-n.false c.in_err-size.ensures)

pub returns : goal.returns
unfolding written_outcome with_zeros changes
returns c =
    ap (leaving (wrote (_ ∷ [])) (c.write_planned.new.out ∷ []))
    (ap (λ x. x ++ drop c.count_members-n.result c.args.list.now)
    (c.fill.ensures.after (λ y h. search rules) ∙ ap zeros (length-take-le c.count_members-n.result c.args.list.now c.if-list-n.false))
    ∙ part_front c.count_members-n.result (zeros c.count_members-n.result) c.args.list.now (length-replicate c.count_members-n.result no_weight))
    ∙ as_packed c.args.m c.args.batch.now c.args.out.now c.args.list.now c.requires.0.accepted c.count_members-n.result _ c.count_members-n.ensures c.if-list-n.false c.in_ok-size.ensures
