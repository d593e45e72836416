use mathlib.Core.Path.{sym, ◌∙◌}
use native.Mathlib.Omega.{arith}
use Rattle.join_tables.proofs.RunTable.{run_zero, run_ruled}
use Rattle.join_tables.proofs.fill_runs.Goals as goal

pub loop-x-preserved : goal.loop-x-preserved
loop-x-preserved c = record {
  size = omega arith;
  first = c.runs_row.ensures 0 (omega arith) (omega arith) ∙ sym run_zero;
  filled = λ i a b. c.runs_row.ensures i a (omega arith);
}

pub returns : goal.returns
returns c = run_ruled c.loop-x.t c.loop-x.invariant.size (λ i a b. c.loop-x.invariant.filled i a (omega arith))
