use Prim.Native.Nat.{◌-◌, ◌^◌, ◌≤◌}
use native.Mathlib.Omega.{arith}
use native.Mathlib.Nat.{pow-le-pow_right}
use Rattle.encoding.proofs.lowest.Goals as goal

pub returns : goal.returns
returns c = let a : 2 ^ (8 - c.args.used) ≤ 256 = pow-le-pow_right (omega arith) {j = 8} (omega arith) in
    let p : 1 ≤ 2 ^ (8 - c.args.used) = pow-le-pow_right (omega arith) {i = 0} (omega arith) in
    (omega arith, omega arith, omega arith)
