use Rattle.std.proofs.Common.{arith}
use Rattle.loes.proofs.Tests.{lt_yes, lt_no}
use Rattle.printing.specs.Text.{hex_digit}
use Rattle.printing.proofs.glyph.Goals as goal

pub returns-then-d-lt10 : goal.returns-then-d-lt10
unfolding hex_digit
returns-then-d-lt10 c = rw (lt_yes c.args.d 10 (omega arith))

pub returns-else-d-lt10 : goal.returns-else-d-lt10
unfolding hex_digit
returns-else-d-lt10 c = rw (lt_no c.args.d 10 (omega arith)) (omega arith)
