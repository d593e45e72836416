use native.Mathlib.Omega.{arith}
use Rattle.loes.specs.Bytes.{started}
use Rattle.bits.proofs.bytes_for.Goals as goal

pub returns : goal.returns
unfolding started
returns c = (c.started_by.ensures.0, omega (arith, c.started_by.ensures.0))
