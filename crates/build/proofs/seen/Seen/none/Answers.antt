use Rattle.std.proofs.Common.{refl}
use Rattle.loes.specs.Bytes.{tabulate, bits_in}
use Rattle.loes.specs.Edges.{ones}
use Rattle.build.proofs.seen.Seen.none.Goals as goal

pub invariant_of-result-clause-counted : goal.invariant_of-result-clause-counted
unfolding bits_in tabulate ones
invariant_of-result-clause-counted c = refl
