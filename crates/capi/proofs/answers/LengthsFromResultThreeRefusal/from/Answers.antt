use Rattle.split.specs.Splitting.{split_outcome}
use Rattle.capi.specs.Coded.{three_coded}
use Rattle.capi.proofs.answers.LengthsFromResultThreeRefusal.from.Goals as goal

pub returns-in-Err : goal.returns-in-Err
unfolding three_coded split_outcome
returns-in-Err c = λ x y z. rw (c.in-Err.is, c.from.ensures, c.number.ensures)

pub returns-in-Ok : goal.returns-in-Ok
unfolding three_coded split_outcome
returns-in-Ok c = λ x y z. rw c.in-Ok.is
