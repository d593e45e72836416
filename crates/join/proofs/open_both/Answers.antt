use Rattle.std.proofs.lemmas.Result.{err_from_is_err_and}
use Rattle.join.proofs.Joins.{first_rejected, second_rejected, widths_rejected}
use Rattle.join.proofs.open_both.Goals as goal

pub returns-in_err-first : goal.returns-in_err-first
returns-in_err-first c = let p = err_from_is_err_and c.from_residual.result c.from_residual.ensures.1 in rw (p.1, p.2) (first_rejected _ c.args.b.now _ c.in_err-first.ensures.checked)

pub returns-in_err-second : goal.returns-in_err-second
returns-in_err-second c =
    let p = err_from_is_err_and c.from_residual-in_err-second.result c.from_residual-in_err-second.ensures.1 in
    rw (p.1, p.2) (second_rejected c.args.a.now _ _ c.in_ok-first.first c.in_ok-first.ensures.checked c.in_err-second.ensures.checked)

pub returns-then-first-second : goal.returns-then-first-second
returns-then-first-second c = widths_rejected c.args.a.now c.args.b.now c.in_ok-first.first c.in_ok-second.second c.in_ok-first.ensures.checked c.in_ok-second.ensures.checked c.if-first-second.true
