use mathlib.Core.Path.{refl}
use Prim.Native.Nat.{◌+◌, ◌/◌}
use lib.ListN.{get_or}
use native.Mathlib.Omega.{arith}
use Rattle.records.proofs.Numbers.{long_window}
use Rattle.restrict.proofs.sixteen.Goals as goal

pub returns : goal.returns
returns c = (long_window c.args.l.now c.args.i.0 c.block.result (get_or c.args.l.now (c.args.i.0 / 4 + 4) 0) c.block.ensures.0 refl (omega arith), omega arith)
