use Rattle.std.proofs.lemmas.Result.{err_from_is_err_and}
use Rattle.loes.specs.Calls.{prefix_call}
use Rattle.query.proofs.Calls.{call_refused, call_open}
use Rattle.prefix.proofs.prefix.Goals as goal

pub returns-in_err-open : goal.returns-in_err-open
unfolding prefix_call
returns-in_err-open c = let p = err_from_is_err_and c.from_residual.result c.from_residual.ensures.1 in rw (p.1, p.2) (call_refused _ _ _ _ c.in_err-open.ensures.checked)

pub returns : goal.returns
unfolding prefix_call
returns c = call_open c.in_ok-open.field-0 _ _ _ _ c.in_ok-open.ensures.checked c.prefix_in.ensures
