use mathlib.Core.Path.{sym, ◌∙◌}
use Rattle.cursor.proofs.Offsets.{zeros_more, zeros_end}
use Rattle.cursor.proofs.are_zeros.Goals as goal

pub loop-offset-preserved : goal.loop-offset-preserved
loop-offset-preserved c = c.loop-offset.invariant ∙ zeros_more c.args.offsets.now c.loop-offset.offset-index c.loop-offset.set c.loop-offset-test.true

pub returns : goal.returns
returns c = zeros_end c.args.offsets.now c.loop-offset.offset-index c.loop-offset.set c.loop-offset-test.false ∙ sym c.loop-offset.invariant
