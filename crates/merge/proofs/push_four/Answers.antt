use mathlib.Core.Path.{sym, ap, ap₂, ◌∙◌}
use Prim.Native.Nat.{◌/◌, ◌%◌}
use mathlib.Core.List.{◌++◌, map, map-append}
use native.Mathlib.Omega.{arith}
use Rattle.records.specs.Records.{record_of_flag}
use Rattle.records.specs.Numbers.{bits_of}
use Rattle.records.specs.Tables.{either_flags}
use Rattle.merge.proofs.Spreading.{children_four}
use Rattle.merge.proofs.push_four.Goals as goal

pub returns : goal.returns
returns c =
    let x = c.args.x in
    let y = c.args.y in (
      c.followed_by.ensures.records ∙ ap₂ (λ a b. a ++ b) c.run_at-high.ensures.0 c.run_at-low.ensures.0
          ∙ sym (map-append record_of_flag (either_flags (bits_of 4 (x / 16)) (bits_of 4 (y / 16))) (either_flags (bits_of 4 (x % 16)) (bits_of 4 (y % 16))))
          ∙ ap (map record_of_flag) (sym (children_four x y)),
      omega (arith, c.followed_by.ensures.bits, c.run_at-high.ensures.1, c.run_at-low.ensures.1),
    )
