use mathlib.Core.Path.{◌≡◌}
use Prim.Native.Nat.{suc, ◌-◌, ◌*◌, ◌≤◌}
use native.Mathlib.Omega.{arith}
use lib.ListN.{length}
use Rattle.restrict.specs.Restriction.{SingleRoom}
use Rattle.restrict.proofs.Marking.{mark_le}
use Rattle.divide.proofs.Apart.{apart_none, apart_done, record_entries, apart_record_before, apart_byte_before, apart_singles}
use Rattle.divide.proofs.mark.Goals as goal

pub loop-i-init : goal.loop-i-init
loop-i-init c = let a = c.requires.n_bound.2 in (apart_none a, apart_none a, apart_none a)

pub loop-i-preserved-then-has_singles : goal.loop-i-preserved-then-has_singles
loop-i-preserved-then-has_singles c =
    let m : SingleRoom c.args.q.now c.args.r.0 c.loop-i.i c.loop-i.c = c.has_singles.ensures c.if-has_singles.true in
    let a = c.requires.n_bound.2 in
    let v = c.loop-i.invariant in
    let e = c.mark_singles_for_three.ensures in
    (apart_singles a v.0 m e.singles_marked, apart_singles a v.1 m e.singles_marked_2, apart_singles a v.2 m e.singles_marked_3)

pub loop-i-preserved-else-has_singles : goal.loop-i-preserved-else-has_singles
loop-i-preserved-else-has_singles c = let m = c.in-Some-whole_edges.ensures in
    let a = c.requires.n_bound.2 in
    let v = c.loop-i.invariant in
    let some = c.loop-i-test.true in
    let e = c.mark_byte_for_three.ensures in
    let room : c.args.r.0 ≤ 4 * length c.args.q.now = omega (arith, c.requires.n_bound) in
    (apart_byte_before a v.0 room some m.0 m.1 e.byte_marked, apart_byte_before a v.1 room some m.0 m.1 e.byte_marked_2, apart_byte_before a v.2 room some m.0 m.1 e.byte_marked_3)

pub mark_record_for_three-d-requires-clause-j_lt_r : goal.mark_record_for_three-d-requires-clause-j_lt_r
mark_record_for_three-d-requires-clause-j_lt_r c = let v = c.loop-i.invariant.0 in
    let a = c.requires.n_bound.2 in
    let z : c.loop-i.i ≡ suc (c.loop-i.i - 1) = omega (arith, c.loop-i-test.true) in
    (omega (arith, z, v.marking.low), omega (arith, mark_le a v.marking, c.requires.n_bound), omega (arith, c.requires.n_bound), c.requires.n_bound.1, (record_entries a v (c.loop-i.i - 1) z).0)

pub loop-i-preserved : goal.loop-i-preserved
loop-i-preserved c = let a = c.requires.n_bound.2 in
    let v = c.loop-i.invariant in
    let e = c.mark_record_for_three-d.ensures in
    let z : c.loop-i.i ≡ suc (c.loop-i.i - 1) = omega (arith, c.loop-i-test.true) in
    let room : c.args.r.0 ≤ 4 * length c.args.q.now = omega (arith, c.requires.n_bound) in
    (apart_record_before a v.0 z room e.result_value e.record_marked, apart_record_before a v.1 z room e.result_value e.record_marked_2, apart_record_before a v.2 z room e.result_value e.record_marked_3)

pub returns-clause-marks : goal.returns-clause-marks
returns-clause-marks c = let z : c.loop-i.i ≡ 0 = omega (arith, c.loop-i-test.false) in
    let v = rw z at c.loop-i.invariant in
    (apart_done v.0, apart_done v.1, apart_done v.2)
