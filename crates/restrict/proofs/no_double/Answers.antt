use Rattle.loes.proofs.Tests.{yes_eq}
use Rattle.restrict.proofs.Singles.{lower, both_low, singles}
use Rattle.restrict.proofs.no_double.Goals as goal

pub returns : goal.returns
unfolding lower
returns c = λ h. singles 16 c.args.x (yes_eq (both_low 16 c.args.x) 0 h)
