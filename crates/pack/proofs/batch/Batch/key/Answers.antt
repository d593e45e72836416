use mathlib.Core.Path.{◌≡◌, ap}
use Prim.Native.Nat.{ℕ, ◌*◌, ◌+◌, ◌-◌}
use native.Mathlib.Omega.{arith}
use lib.ListN.{take, drop}
use Rattle.pack.specs.Batch.{key_at}
use Rattle.pack.proofs.batch.Batch.key.Goals as goal

pub returns : goal.returns
unfolding key_at
returns c =
    let at : ℕ = c.args.self.size * c.args.i in
    let z : at + c.args.self.size - at ≡ c.args.self.size = omega arith in ap (λ k. take k (drop at c.args.self.bytes.now)) z
