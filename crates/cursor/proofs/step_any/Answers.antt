use mathlib.Core.Path.{sym, ◌∙◌}
use Rattle.cursor.proofs.Stepping.{step_wrong}
use Rattle.cursor.proofs.step_any.Goals as goal

pub returns : goal.returns
returns c = step_wrong _ _ _ (sym c.is_cursor.ensures ∙ c.if-is_cursor.false)
