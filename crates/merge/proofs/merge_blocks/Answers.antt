use Prim.Native.Nat.{◌-◌}
use mathlib.Core.Path.{◌≡◌}
use native.Mathlib.Omega.{arith}
use Rattle.merge.proofs.Levels.{level_none, record_room, record_more, block_room, block_more}
use Rattle.merge.proofs.merge_blocks.Goals as goal

pub loop-i-init : goal.loop-i-init
loop-i-init c =
    let none : c.args.from.0 - c.args.from.0 ≡ 0 = omega arith in
    record { merged = rw none (level_none c.requires.order); start = omega arith; end = c.requires.order }

pub merge_block-at-requires : goal.merge_block-at-requires
merge_block-at-requires c =
    let block = c.has_block.ensures c.if-has_block.true in
    let room = block_room c.requires c.loop-i.invariant.start c.loop-i.invariant.merged block.0 block.1 in
    record { j_bound = room.queue; overread_bound = room.over }

pub loop-i-preserved-then-has_block : goal.loop-i-preserved-then-has_block
loop-i-preserved-then-has_block c =
    let block = c.has_block.ensures c.if-has_block.true in
    let v = c.loop-i.invariant in
    record { merged = block_more c.requires v.start v.merged block.0 block.1 c.merge_block-at.ensures; start = omega (arith, v.start); end = block.1 }

pub merge_record-at-requires : goal.merge_record-at-requires
merge_record-at-requires c =
    let room = record_room c.requires c.loop-i.invariant.start c.loop-i.invariant.merged (omega arith) in
    record { i_lt_tail = room.queue; a_bound = room.first; b_bound = room.second; b_bound_2 = room.limit }

pub loop-i-preserved : goal.loop-i-preserved
loop-i-preserved c =
    let v = c.loop-i.invariant in
    record { merged = record_more c.requires v.start v.merged (omega arith) c.merge_record-at.ensures; start = omega (arith, v.start); end = omega arith }
