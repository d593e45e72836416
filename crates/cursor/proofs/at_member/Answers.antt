use lib.ListN.{length}
use native.Mathlib.Omega.{arith}
use mathlib.Core.Path.{sym, ◌∙◌}
use Rattle.std.proofs.lemmas.Slice.{between_to_end}
use Rattle.cursor.proofs.Checks.{cursor_right, cursor_wrong}
use Rattle.cursor.proofs.at_member.Goals as goal

pub returns-then-is_path : goal.returns-then-is_path
returns-then-is_path c = cursor_right _ _ _ _ c.args.o.opens.width (sym c.if-is_path.true ∙ c.is_path.ensures) (rw (between_to_end c.args.path.now c.args.o.encoding.width (length c.args.path.now) (omega arith)) at c.are_zeros.ensures)

pub returns-else-is_path : goal.returns-else-is_path
returns-else-is_path c = c.if-is_path.false ∙ cursor_wrong _ _ (sym c.if-is_path.false ∙ c.is_path.ensures)
