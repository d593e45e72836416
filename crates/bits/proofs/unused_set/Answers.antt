use Rattle.std.proofs.Common.{arith, sym, ◌-◌, ◌*◌}
use Rattle.loes.specs.Bytes.{started}
use Rattle.loes.specs.Entry.{key_bytes}
use Rattle.bits.proofs.Unused.{shl_pos, unused_is}
use Rattle.bits.proofs.unused_set.Goals as goal

pub overflow_sub-x : goal.overflow_sub-x
unfolding key_bytes started
overflow_sub-x c = omega arith

pub bounds-key-t : goal.bounds-key-t
unfolding key_bytes started
bounds-key-t c = omega arith

pub overflow_mul-result : goal.overflow_mul-result
unfolding key_bytes started
overflow_mul-result c = omega arith

pub overflow_sub-result : goal.overflow_sub-result
unfolding key_bytes started
overflow_sub-result c = omega arith

pub overflow_cast-result : goal.overflow_cast-result
unfolding key_bytes started
overflow_cast-result c = omega arith

pub overflow_shl-result : goal.overflow_shl-result
unfolding key_bytes started
overflow_shl-result c = omega arith

pub returns : goal.returns
returns c = sym (unused_is c.args.m c.args.t c.args.key.now c.requires.0.0 c.requires.1.0)

pub nonzero_rem-result : goal.nonzero_rem-result
unfolding key_bytes started
nonzero_rem-result c = shl_pos (8 * c.args.t - c.args.m) (omega arith)
