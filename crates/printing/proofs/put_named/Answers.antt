use Rattle.printing.specs.Text.{named}
use Rattle.printing.proofs.Putting.{puts_then}
use Rattle.printing.proofs.put_named.Goals as goal

pub returns : goal.returns
unfolding named
returns c = puts_then c.put_text-end.ensures c.put_number.ensures
