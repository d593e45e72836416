use Prim.Native.Nat.{◌-◌}
use mathlib.Core.Path.{◌≡◌}
use native.Mathlib.Omega.{arith}
use Rattle.merge.proofs.Levels.{level_none, record_room, record_more}
use Rattle.merge.proofs.merge_records.Goals as goal

pub loop-i-init : goal.loop-i-init
loop-i-init c =
    let none : c.args.from.0 - c.args.from.0 ≡ 0 = omega arith in
    rw none (level_none c.requires.order)

pub merge_record-at-requires : goal.merge_record-at-requires
merge_record-at-requires c =
    let room = record_room c.requires (omega arith) c.loop-i.invariant (omega arith) in
    record { i_lt_tail = room.queue; a_bound = room.first; b_bound = room.second; b_bound_2 = room.limit }

pub loop-i-preserved : goal.loop-i-preserved
loop-i-preserved c = record_more c.requires (omega arith) c.loop-i.invariant (omega arith) c.merge_record-at.ensures
