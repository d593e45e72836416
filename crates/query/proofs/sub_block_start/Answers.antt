use mathlib.Core.Path.{◌∙◌}
use native.Mathlib.Omega.{arith}
use Rattle.encoding.proofs.Opened.{opens_room}
use Rattle.query.proofs.Index.{sub_block_at}
use Rattle.query.proofs.sub_block_start.Goals as goal

pub overflow_add-o : goal.overflow_add-o
overflow_add-o c = omega (arith, (sub_block_at _ _ c.args.o.opens _ c.requires).0, (opens_room _ _ c.args.o.opens).bytes)

pub number-requires : goal.number-requires
number-requires c = (omega arith, (sub_block_at _ _ c.args.o.opens _ c.requires).0)

pub returns : goal.returns
returns c = c.number.ensures.0 ∙ (sub_block_at _ _ c.args.o.opens _ c.requires).1
