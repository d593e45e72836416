use mathlib.Core.Path.{sym, ◌∙◌}
use Rattle.loes.specs.Cursor.{advance}
use Rattle.capi.proofs.Steps.{some_read, read_some, walked_on}
use Rattle.capi.proofs.unchecked.loes_unchecked_next.Goals as goal

pub unwrap-from-requires : goal.unwrap-from-requires
unwrap-from-requires c = rw c.state_of.ensures (some_read c.args.state c.requires.1)

pub step_right-requires : goal.step_right-requires
step_right-requires c =
    let state = read_some c.args.state c.unwrap-from.result (sym c.unwrap-from.ensures ∙ c.state_of.ensures) in
    rw (c.opened-o.ensures, state.1) c.requires.2

pub returns : goal.returns
returns c = walked_on advance c.opened-o.result _ c.opened-o.ensures _ _ _ c.unwrap-from.result _ _ (sym c.unwrap-from.ensures ∙ c.state_of.ensures) c.step_right.ensures (c.from.ensures _ _)
