use Rattle.cursor.proofs.Checks.{behind_at, behind_below}
use Rattle.cursor.proofs.next_offset.Goals as goal

pub returns-then-d-level : goal.returns-then-d-level
returns-then-d-level c = behind_at _ _ _ _ c.if-d-level.true

pub returns : goal.returns
returns c = behind_below _ _ _ _ _ c.if-d-level.false c.first_edge.ensures
