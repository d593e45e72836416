use mathlib.Core.Path.{refl}
use Prim.Native.Nat.{◌+◌, ◌-◌}
use native.Mathlib.Omega.{arith}
use native.Mathlib.Nat.{div-le_self}
use Rattle.loes.specs.Bytes.{started}
use Rattle.bits.proofs.started_by.Goals as goal

pub returns : goal.returns
unfolding started
returns c = (refl, omega (arith, div-le_self (c.args.n + (c.args.size - 1)) c.args.size))
