use mathlib.Core.Path.{refl}
use native.Mathlib.Omega.{arith}
use Rattle.join_tables.proofs.PartTable.{row_fits, row_more}
use Rattle.join_tables.proofs.parts_row.Goals as goal

pub overflow_mul-d : goal.overflow_mul-d
overflow_mul-d c = record { fits = omega (arith, row_fits c.args.k 0 _ _ c.requires.1 (omega arith) (c.requires.2 c.args.k (omega arith) (omega arith)) refl) }

pub overflow_add-d : goal.overflow_add-d
overflow_add-d c = record { fits = omega (arith, row_fits c.args.k 0 _ _ c.requires.1 (omega arith) (c.requires.2 c.args.k (omega arith) (omega arith)) refl) }

pub overflow_add-t : goal.overflow_add-t
overflow_add-t c = record { fits = row_fits c.args.k c.loop-y.y _ _ c.requires.1 (omega arith) (c.requires.2 c.args.k (omega arith) (omega arith)) (c.loop-y.invariant c.loop-y.y (omega arith) (omega arith)) }

pub loop-y-preserved : goal.loop-y-preserved
loop-y-preserved c = row_more c.loop-y.t c.args.k c.loop-y.y _ (omega arith) c.requires.0 c.requires.1 (omega arith) (c.requires.2 c.args.k (omega arith) (omega arith)) c.loop-y.invariant
