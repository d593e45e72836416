use Rattle.printing.proofs.Putting.{puts_text}
use Rattle.printing.proofs.put_text.Goals as goal

pub returns : goal.returns
returns c = rw c.copy_from_slice.ensures.after (puts_text _ _ _ c.requires)
