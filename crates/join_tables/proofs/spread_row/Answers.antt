use mathlib.Core.Path.{◌∙◌}
use native.Mathlib.Omega.{arith}
use Rattle.join_tables.proofs.SpreadTable.{first_set, row_more}
use Rattle.join_tables.proofs.spread_row.Goals as goal

pub loop-x-preserved : goal.loop-x-preserved
loop-x-preserved c = row_more c.loop-x.t c.args.f c.loop-x.x c.spread_entry.result (omega arith) c.requires.1 (omega arith) (c.spread_entry.ensures ∙ first_set c.args.f c.loop-x.x c.requires.0 c.requires.1) c.loop-x.invariant
