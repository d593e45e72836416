use mathlib.Core.Path.{ap, ◌∙◌}
use Rattle.capi.specs.Coded.{three_coded}
use Rattle.capi.proofs.loes_split.Goals as goal

pub returns : goal.returns
returns c = c.from.ensures _ _ _ ∙ ap three_coded c.split.ensures
