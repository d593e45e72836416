use mathlib.Core.Path.{sym, ap₂, ◌∙◌}
use mathlib.Core.List.{◌++◌}
use native.Mathlib.Omega.{arith}
use Rattle.loes.proofs.Lists.{those_append}
use Rattle.records.specs.Records.{has_edge}
use Rattle.records.specs.Numbers.{records_of}
use Rattle.restrict.proofs.bytes_run.Goals as goal

pub returns : goal.returns
returns c = (
  c.followed_by.ensures.records ∙ ap₂ (λ s t. s ++ t) c.edged_at.ensures.0 c.edged_at-2.ensures.0 ∙ sym (those_append has_edge (records_of 4 c.args.x) (records_of 4 c.args.y)),
  omega (arith, c.followed_by.ensures.bits, c.edged_at.ensures.1, c.edged_at-2.ensures.1),
)
