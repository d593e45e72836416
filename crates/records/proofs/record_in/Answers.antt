use mathlib.Core.Path.{refl}
use native.Mathlib.Omega.{arith}
use Rattle.records.specs.Records.{code_in}
use Rattle.records.proofs.record_in.Goals as goal

pub returns : goal.returns
unfolding code_in
returns c = (refl, omega arith)
