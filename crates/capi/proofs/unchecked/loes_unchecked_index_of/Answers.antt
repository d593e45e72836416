use Rattle.loes.specs.Calls.{index_of_call}
use Rattle.query.proofs.Calls.{call_open}
use Rattle.capi.proofs.Codes.{onward, lookup_coded}
use Rattle.capi.proofs.unchecked.loes_unchecked_index_of.Goals as goal

pub returns : goal.returns
unfolding index_of_call
returns c = onward (call_open c.opened-o.result c.args.l.now _ _ _ c.opened-o.ensures c.index_of_in.ensures) (lookup_coded _ c.from.ensures)
