use Rattle.loes.specs.Model.{difference}
use Rattle.loes.specs.Calls.{difference_call}
use Rattle.join.specs.Joining.{join_call}
use Rattle.join.proofs.difference.Goals as goal

pub returns : goal.returns
unfolding join_call difference_call difference
returns c = c.join_by_length.ensures
