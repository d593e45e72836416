use mathlib.Core.Path.{◌∙◌}
use Rattle.capi.proofs.advanced.Goals as goal

pub returns-in-Ok : goal.returns-in-Ok
returns-in-Ok c = c.from.ensures _ ∙ c.in-Ok.ensures
