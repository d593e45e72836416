use Rattle.weights.specs.Weights.{post, post_call}
use Rattle.query.proofs.Calls.{call_open}
use Rattle.capi.proofs.Codes.{onward, posting_coded}
use mathlib.Core.Path.{ap, ◌∙◌}
use mir.Facts.{to_z-of_z}
use Rattle.loes.specs.Read.{entry_in}
use Rattle.capi.proofs.unchecked.loes_unchecked_post.Goals as goal

pub returns : goal.returns
unfolding post_call
returns c = onward (call_open c.opened-o.result c.args.l.now _ _ _ c.opened-o.ensures (c.post_in.ensures ∙ ap (post (entry_in c.opened-o.result.bytes.now) c.args.list.now c.args.key.now) (to_z-of_z c.ranges.amount))) (posting_coded _ _ c.from.ensures)
