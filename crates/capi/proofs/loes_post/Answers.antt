use mathlib.Core.Path.{ap, ◌∙◌}
use mir.Facts.{to_z-of_z}
use Rattle.weights.specs.Weights.{post_call}
use Rattle.capi.proofs.Codes.{onward, posting_coded}
use Rattle.capi.proofs.loes_post.Goals as goal

pub returns : goal.returns
returns c = onward (c.post.ensures ∙ ap (post_call c.args.l.now c.args.list.now c.args.key.now) (to_z-of_z c.ranges.amount)) (posting_coded _ _ c.from.ensures)
