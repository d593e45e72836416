use Rattle.printing.specs.Text.{hex}
use Rattle.printing.proofs.Putting.{puts_then}
use Rattle.printing.proofs.put_byte.Goals as goal

pub returns : goal.returns
unfolding hex
returns c = rw (← c.glyph.ensures, ← c.glyph-2.ensures) (puts_then c.put-end.ensures c.put.ensures)
