use mathlib.Core.Path.{ap, ◌∙◌}
use Prim.Native.Nat.{◌/◌}
use native.Mathlib.Omega.{arith}
use lib.ListN.{get_or}
use Rattle.records.specs.Numbers.{records_of}
use Rattle.restrict.specs.Restriction.{kept_singles}
use Rattle.restrict.proofs.Singles.{four_marked}
use Rattle.restrict.proofs.mark_singles.Goals as goal

pub returns : goal.returns
returns c = let k = c.keep_singles-k in
    let l = records_of 16 c.args.y in
    let b = λ (i : _). ap (λ t. get_or t i 0) c.to_be_bytes.ensures in
    four_marked c.args.z.now (c.args.i.0 / 4) _ _ _ _ (omega arith) l c.args.i.0 c.args.d.0 k.result (omega arith) k.ensures.1 (omega (arith, b 0, k.ensures.1)) (b 1) (b 2) (b 3) (k.ensures.0 ∙ ap (kept_singles l) c.sixteen-e.ensures.0)
