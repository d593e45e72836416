use Rattle.printing.specs.Text.{numbers_line}
use Rattle.printing.proofs.Putting.{puts_then}
use Rattle.printing.proofs.put_numbers.Goals as goal

pub returns : goal.returns
unfolding numbers_line
returns c = puts_then (puts_then (puts_then c.put_named-end.ensures c.put_named-end-2.ensures) c.put_named-end-3.ensures) c.put.ensures
