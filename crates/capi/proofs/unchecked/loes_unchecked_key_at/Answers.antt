use Rattle.loes.specs.Calls.{key_at_call}
use Rattle.query.proofs.Calls.{call_open}
use Rattle.capi.proofs.Codes.{onward, key_coded}
use Rattle.capi.proofs.unchecked.loes_unchecked_key_at.Goals as goal

pub returns : goal.returns
unfolding key_at_call
returns c = onward (call_open c.opened-o.result c.args.l.now _ _ _ c.opened-o.ensures c.key_at_in.ensures) (key_coded _ _ c.of_key.ensures)
