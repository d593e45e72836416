use mathlib.Core.Path.{ap, ◌∙◌}
use Prim.Native.Nat.{◌/◌, ◌%◌}
use native.Mathlib.Omega.{arith}
use lib.Bits.{bit_or}
use lib.ListN.{get_or, set}
use Rattle.pack.proofs.SetBits.{set_or}
use Rattle.pack.proofs.Masks.{masks}
use Rattle.pack.proofs.set_bit.Goals as goal

pub returns : goal.returns
returns c =
    let b = c.args.b.now in
    let o = c.args.o.0 in
    ap (λ x. set b (o / 8) (bit_or (get_or b (o / 8) 0) x)) (masks.rule (o % 8) (omega arith)) ∙ set_or b o
