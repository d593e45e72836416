use mathlib.Core.Path.{◌≡◌, sym, ap}
use mathlib.Core.Bool.{true}
use lib.ListN.{get_or}
use lib.IntN.{◌+ℤ◌, pos}
use mir.Syntax.{w32}
use mir.Val.{SFits}
use mir.Facts.{to_z-of_z}
use borrow.Author.Rules.{rules}
use Rattle.std.specs.Prelude.{is_some}
use Rattle.std.proofs.lemmas.Result.{err_from_is_err_and}
use Rattle.loes.specs.declared.refusal.Refusal.TheVariants.{Overflow}
use Rattle.weights.specs.Weights.{outside}
use Rattle.weights.specs.Answers.{posted_at}
use Rattle.weights.proofs.Ranges.{sum_told, told_none, told_some}
use Rattle.weights.proofs.post_at.Goals as goal

pub returns-in_err-list : goal.returns-in_err-list
unfolding posted_at
returns-in_err-list c =
    let f : SFits w32 (get_or c.args.list.now c.args.k (pos 0)) = search rules in
    let e : outside (get_or c.args.list.now c.args.k (pos 0) +ℤ c.args.amount) ≡ true =
    sym (told_none _ _ true (sum_told _ _ c.checked_add.result f c.ranges.amount c.checked_add.ensures) (ap is_some c.in_err-list.ensures.ok_part)) in
    let p = err_from_is_err_and c.from_residual.result c.from_residual.ensures.1 in
    let v = rw c.in_err-list.ensures.ok_part at c.in_err-list.ensures.value in
    let q : c.in_err-list.field-0.0 ≡ Overflow = cc in
    rw (p.1, p.2, q, e)

pub returns : goal.returns
unfolding posted_at
returns c =
    let f : SFits w32 (get_or c.args.list.now c.args.k (pos 0)) = search rules in
    let t = told_some _ c.in_ok-list.field-0 _ (sum_told (get_or c.args.list.now c.args.k (pos 0)) c.args.amount c.checked_add.result f c.ranges.amount c.checked_add.ensures) c.in_ok-list.ensures.ok_part in
    rw (t.0, to_z-of_z t.1.1, t.1.0)
