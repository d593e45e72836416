use mathlib.Core.Path.{ap, ◌∙◌}
use mir.Facts.{to_z-of_z}
use Rattle.std.proofs.lemmas.Result.{err_from_is_err_and}
use Rattle.loes.specs.Read.{entry_in}
use Rattle.weights.specs.Weights.{post_call}
use Rattle.weights.specs.Weights as Weights
use Rattle.query.proofs.Calls.{call_refused, call_open}
use Rattle.weights.proofs.post.Goals as goal

pub returns-in_err-open : goal.returns-in_err-open
unfolding post_call
returns-in_err-open c = let p = err_from_is_err_and c.from_residual.result c.from_residual.ensures.1 in rw (p.1, p.2) (call_refused _ _ _ _ c.in_err-open.ensures.checked)

pub returns : goal.returns
unfolding post_call
returns c =
    call_open c.in_ok-open.field-0 _ _ _ _ c.in_ok-open.ensures.checked
    (c.post_in.ensures ∙ ap (Weights.post (entry_in c.in_ok-open.field-0.bytes.now) c.args.list.now c.args.key.now) (to_z-of_z c.ranges.amount))
