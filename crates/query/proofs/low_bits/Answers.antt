use native.Mathlib.Omega.{arith}
use Rattle.query.proofs.Writing.{path_none, path_more, path_small}
use Rattle.query.proofs.low_bits.Goals as goal

pub loop-offset-init : goal.loop-offset-init
loop-offset-init c = path_none _

pub overflow_mul-bits : goal.overflow_mul-bits
overflow_mul-bits c = omega (arith, c.loop-offset.invariant, path_small c.args.offsets.now c.loop-offset.offset-index (omega arith))

pub overflow_add-bits : goal.overflow_add-bits
overflow_add-bits c = omega (arith, c.loop-offset.invariant, path_small c.args.offsets.now c.loop-offset.offset-index (omega arith))

pub loop-offset-preserved : goal.loop-offset-preserved
loop-offset-preserved c = path_more _ _ _ c.loop-offset.invariant
