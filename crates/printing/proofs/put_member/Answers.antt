use Rattle.printing.specs.Text.{member_line}
use Rattle.printing.proofs.Putting.{puts_then}
use Rattle.printing.proofs.put_member.Goals as goal

pub returns : goal.returns
unfolding member_line
returns c = puts_then (puts_then (puts_then c.put_number-end.ensures c.put-end.ensures) c.put_key-end.ensures) c.put.ensures
