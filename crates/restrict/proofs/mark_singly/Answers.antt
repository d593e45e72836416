use mathlib.Core.Path.{◌≡◌}
use native.Mathlib.Omega.{arith}
use Rattle.restrict.proofs.Marking.{mark_none, kept_read, kept_on, kept_code_of, before_entries, mark_before, mark_done}
use Rattle.restrict.proofs.mark_singly.Goals as goal

pub loop-j-init : goal.loop-j-init
loop-j-init c = let v = mark_none c.requires.2 in
    (v, kept_read v c.byte_before-y.ensures)

pub overflow_sub-c : goal.overflow_sub-c
overflow_sub-c c = let x = c.record_in-x.ensures in
    let v = c.loop-j.invariant in
    (before_entries c.requires.2 v.0 c.loop-j-test.true x.1 (kept_code_of v.0 v.1 c.loop-j-test.true x.0)).0

pub mark_record-requires : goal.mark_record-requires
mark_record-requires c = let x = c.record_in-x.ensures in
    let v = c.loop-j.invariant in
    let b = before_entries c.requires.2 v.0 c.loop-j-test.true x.1 (kept_code_of v.0 v.1 c.loop-j-test.true x.0) in
    (omega (arith, v.0.low, c.loop-j-test.true), omega (arith, v.0.size, c.requires), omega (arith, v.0.size, c.requires), x.1, omega (arith, b, v.0.size, c.requires))

pub loop-j-preserved-then-j-eq0 : goal.loop-j-preserved-then-j-eq0
loop-j-preserved-then-j-eq0 c = let x = c.record_in-x.ensures in
    let v = c.loop-j.invariant in
    let m = mark_before c.requires.2 v.0 c.loop-j-test.true x.1 (kept_code_of v.0 v.1 c.loop-j-test.true x.0) c.mark_record.ensures in
    (m, kept_read m c.byte_before-y-then-j-eq0.ensures)

pub loop-j-preserved : goal.loop-j-preserved
loop-j-preserved c = let x = c.record_in-x.ensures in
    let v = c.loop-j.invariant in
    let m = mark_before c.requires.2 v.0 c.loop-j-test.true x.1 (kept_code_of v.0 v.1 c.loop-j-test.true x.0) c.mark_record.ensures in
    (m, kept_on v.1 (omega (arith, c.if-j-eq0.false)))

pub returns : goal.returns
returns c = let z : c.loop-j.j ≡ 0 = omega (arith, c.loop-j-test.false) in
    mark_done (rw z at c.loop-j.invariant.0)
