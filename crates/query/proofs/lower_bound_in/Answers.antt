use Rattle.std.proofs.lemmas.Result.{err_from_is_err_and}
use Rattle.query.proofs.Readings.{bound_refused, bound_told}
use Rattle.query.proofs.lower_bound_in.Goals as goal

pub returns-in_err-at : goal.returns-in_err-at
returns-in_err-at c = let p = err_from_is_err_and c.from_residual.result c.from_residual.ensures.1 in rw (p.1, p.2) (bound_refused _ _ _ c.in_err-at.ensures)

pub returns : goal.returns
returns c = rw c.then_some.ensures (bound_told _ _ _ c.in_ok-at.ensures _ c.args.o.opens.count)
