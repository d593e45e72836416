use mathlib.Core.Path.{◌∙◌}
use native.Mathlib.Omega.{arith}
use Rattle.encoding.proofs.Opened.{opens_room}
use Rattle.query.proofs.Index.{block_at}
use Rattle.query.proofs.block_start.Goals as goal

pub overflow_add-o : goal.overflow_add-o
overflow_add-o c = omega (arith, (block_at _ _ c.args.o.opens _ c.requires).0, (opens_room _ _ c.args.o.opens).bytes)

pub number-requires : goal.number-requires
number-requires c = (omega arith, (block_at _ _ c.args.o.opens _ c.requires).0)

pub returns : goal.returns
returns c = c.number.ensures.0 ∙ (block_at _ _ c.args.o.opens _ c.requires).1
