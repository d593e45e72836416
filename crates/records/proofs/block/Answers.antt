use native.Mathlib.Omega.{arith}
use mathlib.Core.Path.{◌≡◌, refl}
use lib.ListN.{get_or}
use Prim.Native.Nat.{◌+◌, ◌*◌}
use Rattle.records.proofs.Numbers.{sixteen}
use Rattle.records.proofs.block.Goals as goal

pub returns : goal.returns
returns c =
    let l = c.args.l.now in
    let j = c.args.j in
    let a = get_or l j 0 in
    let b = get_or l (j + 1) 0 in
    let d = get_or l (j + 2) 0 in
    let e = get_or l (j + 3) 0 in
    let value : c.from_be_bytes.result ≡ a * 16777216 + b * 65536 + d * 256 + e = omega (arith, c.from_be_bytes.ensures) in
    (rw value (sixteen l j a b d e refl refl refl refl (omega (arith, c.type_inv.l (j + 1))) (omega (arith, c.type_inv.l (j + 2))) (omega (arith, c.type_inv.l (j + 3)))), c.from_be_bytes.type_inv)
