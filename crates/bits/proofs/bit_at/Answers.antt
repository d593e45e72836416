use mathlib.Core.Path.{refl}
use Rattle.loes.specs.Bytes.{bit_at, odd}
use Rattle.bits.proofs.bit_at.Goals as goal

pub returns : goal.returns
unfolding bit_at odd
returns c = refl
