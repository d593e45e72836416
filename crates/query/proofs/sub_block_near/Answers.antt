use native.Mathlib.Omega.{arith}
use Rattle.encoding.proofs.Opened.{opens_room}
use Rattle.query.proofs.sub_block_near.Goals as goal

pub begins_by-requires : goal.begins_by-requires
begins_by-requires c = omega (arith, (opens_room _ _ c.args.o.opens).few, c.requires, c.if-hint-block.true)

pub begins_by-requires-then-begins_by : goal.begins_by-requires-then-begins_by
begins_by-requires-then-begins_by c = omega (arith, (opens_room _ _ c.args.o.opens).few, c.requires, c.if-hint-block.true)

pub begins_by-requires-then-hint-ne0 : goal.begins_by-requires-then-hint-ne0
begins_by-requires-then-hint-ne0 c = omega (arith, (opens_room _ _ c.args.o.opens).few, c.requires, c.if-hint-block.true)
