use native.Mathlib.Omega.{arith}
use lib.Bits.{and_le_l}
use Rattle.restrict.proofs.Singles.{lower, low_most, keep_mask, keep_records}
use Rattle.restrict.proofs.keep_singles.Goals as goal

pub overflow_mul-result : goal.overflow_mul-result
unfolding lower
overflow_mul-result c = record { fits = omega (arith, low_most 16 c.args.e) }

pub returns : goal.returns
unfolding lower
returns c = (keep_records 16 c.args.y c.args.e, omega (arith, and_le_l c.args.y (keep_mask 16 c.args.e), c.requires))
