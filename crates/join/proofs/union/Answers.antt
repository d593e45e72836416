use Rattle.loes.specs.Model.{union}
use Rattle.loes.specs.Calls.{union_call}
use Rattle.join.specs.Joining.{join_call}
use Rattle.join.proofs.union.Goals as goal

pub returns : goal.returns
unfolding join_call union_call union
returns c = c.join_by_length.ensures
