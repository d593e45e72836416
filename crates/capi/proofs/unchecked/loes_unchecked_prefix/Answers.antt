use Rattle.loes.specs.Calls.{prefix_call}
use Rattle.query.proofs.Calls.{call_open}
use Rattle.capi.proofs.Codes.{range_onward}
use Rattle.capi.proofs.unchecked.loes_unchecked_prefix.Goals as goal

pub returns : goal.returns
unfolding prefix_call
returns c = range_onward (call_open c.opened-o.result c.args.l.now _ _ _ c.opened-o.ensures c.prefix_in.ensures) c.from.ensures
