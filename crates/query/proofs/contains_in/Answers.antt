use Rattle.std.proofs.lemmas.Result.{err_from_is_err_and}
use Rattle.query.proofs.Readings.{contains_refused, contains_told}
use Rattle.query.proofs.contains_in.Goals as goal

pub returns-in_err-locate : goal.returns-in_err-locate
returns-in_err-locate c = let p = err_from_is_err_and c.from_residual.result c.from_residual.ensures.1 in rw (p.1, p.2) (contains_refused _ _ _ c.in_err-locate.ensures)

pub returns : goal.returns
returns c = contains_told _ _ _ c.in_ok-locate.ensures
