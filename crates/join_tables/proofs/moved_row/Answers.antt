use native.Mathlib.Omega.{arith}
use Rattle.join_tables.proofs.SpreadTable.{moved_more}
use Rattle.join_tables.proofs.moved_row.Goals as goal

pub loop-x-preserved : goal.loop-x-preserved
loop-x-preserved c = moved_more c.loop-x.t c.args.f c.loop-x.x (omega arith) c.requires.0 (omega arith) c.loop-x.invariant
