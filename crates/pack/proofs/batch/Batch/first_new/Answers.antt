use mathlib.Core.Path.{ap, ap₂, ◌∙◌}
use Prim.Native.Nat.{◌-◌}
use native.Mathlib.Omega.{arith}
use lib.ListN.{length}
use Rattle.pack.specs.Batch.{key}
use Rattle.loes.specs.Model.{key_in}
use Rattle.pack.specs.Rising.{common_prefix}
use Rattle.pack.proofs.Places.{length_at, common_max, new_first, new_at}
use Rattle.pack.proofs.batch.Batch.first_new.Goals as goal

pub returns-then-i-eq0 : goal.returns-then-i-eq0
returns-then-i-eq0 c = new_first (key c.args.self.width c.args.self.bytes.now) c.args.i c.if-i-eq0.true

pub common_prefix-requires : goal.common_prefix-requires
common_prefix-requires c =
    let b = c.args.self in
    (b.whole.narrow, ap length c.key.ensures ∙ length_at b (c.args.i - 1) (omega arith) ∙ b.whole.size, ap length c.key-2.ensures ∙ length_at b c.args.i (omega arith) ∙ b.whole.size)

pub overflow_add-result : goal.overflow_add-result
overflow_add-result c = omega (arith, c.common_prefix.ensures, common_max c.args.self.width c.key.result.now c.key-2.result.now, c.args.self.whole.narrow)

pub returns : goal.returns
returns c = new_at c.args.self c.args.i c.common_prefix.result c.if-i-eq0.false (c.common_prefix.ensures ∙ ap₂ (λ x y. common_prefix (key_in c.args.self.width x) (key_in c.args.self.width y)) c.key.ensures c.key-2.ensures)
