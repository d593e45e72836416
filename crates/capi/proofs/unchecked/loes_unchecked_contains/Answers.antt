use Rattle.loes.specs.Calls.{contains_call}
use Rattle.query.proofs.Calls.{call_open}
use Rattle.capi.proofs.Codes.{onward, membership_coded}
use Rattle.capi.proofs.unchecked.loes_unchecked_contains.Goals as goal

pub returns : goal.returns
unfolding contains_call
returns c = onward (call_open c.opened-o.result c.args.l.now _ _ _ c.opened-o.ensures c.contains_in.ensures) (membership_coded _ c.from.ensures)
