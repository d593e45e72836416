use mathlib.Core.Path.{◌≡◌}
use Prim.Native.Nat.{◌-◌, ◌*◌, ◌/◌}
use native.Mathlib.Omega.{arith}
use Rattle.restrict.specs.Restriction.{SingleRoom}
use Rattle.restrict.proofs.Marking.{mark_none, before_entries, mark_before, mark_done}
use Rattle.restrict.proofs.Masking.{some_member, byte_front, marked_byte}
use Rattle.restrict.proofs.Singles.{singles_marked}
use Rattle.restrict.proofs.mark_bytes.Goals as goal

pub loop-i-init : goal.loop-i-init
loop-i-init c = mark_none c.requires.2

pub loop-i-preserved-then-has_singles : goal.loop-i-preserved-then-has_singles
loop-i-preserved-then-has_singles c =
    let m : SingleRoom c.loop-i.q c.args.r.0 c.loop-i.i c.loop-i.c = c.has_singles.ensures c.if-has_singles.true in
    let z : 4 * ((c.loop-i.i - 16) / 4) ≡ c.loop-i.i - 16 = omega (arith, m.whole, m.block) in
    singles_marked c.requires.2 c.loop-i.q _ c.loop-i.i c.loop-i.c c.loop-i.invariant m (rw (c.block-y.ensures.0, z) at c.mark_singles.ensures)

pub loop-i-preserved-in-Some : goal.loop-i-preserved-in-Some
loop-i-preserved-in-Some c = let m = c.in-Some.ensures in
    let some = c.loop-i-test.true in
    let v = c.loop-i.invariant in
    marked_byte c.requires.2 (some_member c.args.members) c.loop-i.q c.loop-i.i c.loop-i.c c.in-Some.k _ _ c.mark_byte.result some (byte_front v some m.0.whole) v m.0 m.1 (omega (arith, v.low, v.size, c.requires)) c.test_at.ensures c.mark_byte.ensures

pub overflow_sub-c-in_default : goal.overflow_sub-c-in_default
overflow_sub-c-in_default c = let x = c.record_at-x.ensures in
    (before_entries c.requires.2 c.loop-i.invariant c.loop-i-test.true x.1 x.0).0

pub mark_record-requires : goal.mark_record-requires
mark_record-requires c = let x = c.record_at-x.ensures in
    let v = c.loop-i.invariant in
    let b = before_entries c.requires.2 v c.loop-i-test.true x.1 x.0 in
    (omega (arith, v.low, c.loop-i-test.true), omega (arith, v.size, c.requires), omega (arith, v.size, c.requires), x.1, omega (arith, b, v.size, c.requires))

pub loop-i-preserved : goal.loop-i-preserved
loop-i-preserved c = let x = c.record_at-x.ensures in
    mark_before c.requires.2 c.loop-i.invariant c.loop-i-test.true x.1 x.0 c.mark_record.ensures

pub returns : goal.returns
returns c = let z : c.loop-i.i ≡ 0 = omega (arith, c.loop-i-test.false) in
    mark_done (rw z at c.loop-i.invariant)
