use Rattle.printing.proofs.Paging.{first_stands}
use Rattle.printing.proofs.page.Page.first.Goals as goal

pub invariant_of-result : goal.invariant_of-result
invariant_of-result c = record { stands = first_stands _ _ c.before-2.ensures }
