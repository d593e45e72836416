use mathlib.Core.Path.{◌∙◌, refl}
use Rattle.loes.specs.Cursor.{advance}
use Rattle.std.proofs.lemmas.Result.{err_from_is_err_and}
use Rattle.capi.proofs.Steps.{none_or, some_or, call_kept, kept_on, walked_on}
use Rattle.capi.proofs.stepped.Goals as goal

pub returns-in_err-o : goal.returns-in_err-o
returns-in_err-o c =
    let p = err_from_is_err_and c.from_residual.result c.from_residual.ensures.1 in
    rw (p.1, p.2) (call_kept _ _ _ _ _ c.in_err-o.ensures.checked)

pub returns-in_err-state : goal.returns-in_err-state
returns-in_err-state c =
    let p = err_from_is_err_and c.from_residual-in_err-state.result c.from_residual-in_err-state.ensures.1 in
    let none = none_or _ _ _ c.in_err-state.ensures.value in
    rw (p.1, p.2, none.1) (kept_on advance c.in_ok-o.o _ c.in_ok-o.ensures.checked _ _ _ (none.0 ∙ c.state_of.ensures))

pub returns : goal.returns
returns c =
    walked_on advance c.in_ok-o.o _ c.in_ok-o.ensures.checked _ _ _ c.in_ok-state.state _ _ (some_or _ _ _ c.in_ok-state.ensures.value ∙ c.state_of.ensures) (rw c.of.ensures at c.advanced.ensures) refl
