use mathlib.Core.Path.{refl}
use native.Mathlib.Omega.{arith}
use Rattle.join_tables.proofs.PartTable.{part_start, part_turn}
use Rattle.join_tables.proofs.first_parts.Goals as goal

pub loop-i-init : goal.loop-i-init
loop-i-init c = part_start c.args.t.now (omega arith)

pub loop-i-preserved : goal.loop-i-preserved
loop-i-preserved c = part_turn c.loop-i.i _ c.loop-i.t (omega arith) (omega arith) c.loop-i.invariant refl
