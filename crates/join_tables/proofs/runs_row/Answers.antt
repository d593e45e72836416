use mathlib.Core.Path.{refl}
use native.Mathlib.Omega.{arith}
use Rattle.join_tables.proofs.RunTable.{run_turn}
use Rattle.join_tables.proofs.runs_row.Goals as goal

pub loop-y-preserved : goal.loop-y-preserved
loop-y-preserved c = run_turn c.args.x c.loop-y.y c.requires.0 (omega arith) c.loop-y.t c.loop-y.invariant _ _ (omega arith) refl refl
