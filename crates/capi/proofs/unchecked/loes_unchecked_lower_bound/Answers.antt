use Rattle.loes.specs.Calls.{lower_bound_call}
use Rattle.query.proofs.Calls.{call_open}
use Rattle.capi.proofs.Codes.{onward, bound_coded}
use Rattle.capi.proofs.unchecked.loes_unchecked_lower_bound.Goals as goal

pub returns : goal.returns
unfolding lower_bound_call
returns c = onward (call_open c.opened-o.result c.args.l.now _ _ _ c.opened-o.ensures c.lower_bound_in.ensures) (bound_coded _ c.from.ensures)
