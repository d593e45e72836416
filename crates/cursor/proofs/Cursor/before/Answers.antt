use Rattle.cursor.specs.Steps.{numbers}
use Rattle.cursor.proofs.Cursor.before.Goals as goal

pub returns : goal.returns
unfolding numbers
returns c = c.of.ensures
