use Rattle.std.proofs.Common.{arith, ◌≡◌, ◌+◌, ◌-◌, ◌*◌, ◌/◌, ap}
use mathlib.Core.Bool.{not}
use Rattle.loes.specs.Bytes.{started}
use Rattle.encoding.proofs.Pass.{Going, based, later_next, going_start, part_wrong, going_next, going_end, entries_wrong, entries_right, sum_few}
use Rattle.encoding.proofs.whole_ones.Goals as goal

pub loop-j-init : goal.loop-j-init
loop-j-init c = (going_start c.args.l.now c.args.e, omega arith, λ z. absurd (z (omega arith)))

pub entries_agree-requires : goal.entries_agree-requires
entries_agree-requires c =
    let i = c.loop-j.invariant in
    (c.requires, omega (arith, c.loop-j-test.true), based c.args.l.now c.args.e _ c.loop-j.base _ _ i.1 i.2 c.block_base-base.ensures)

pub returns-then-not-entries_agree : goal.returns-then-not-entries_agree
returns-then-not-entries_agree c = entries_wrong _ _ _ _ c.loop-j.invariant.0 (omega (arith, c.loop-j-test.true)) c.entries_agree.ensures (ap not c.if-not-entries_agree.true)

pub scan_sub_block-requires : goal.scan_sub_block-requires
unfolding started
scan_sub_block-requires c = omega (arith, c.loop-j-test.true, c.requires.edges)

pub returns-in_err-n : goal.returns-in_err-n
returns-in_err-n c =
    rw c.from_residual.ensures
    (part_wrong c.args.l.now c.args.e _ _ c.loop-j.invariant.0 64 (omega (arith, c.loop-j-test.true)) (omega (arith, c.loop-j-test.true)) c.in_err-n.ensures)

pub overflow_add-n : goal.overflow_add-n
overflow_add-n c = omega (arith, sum_few c.args.l.now c.args.e _ _ c.loop-j.invariant.0 64 _ (omega arith) c.in_ok-n.ensures.1 c.requires.few)

pub loop-j-preserved : goal.loop-j-preserved
loop-j-preserved c =
    let i = c.loop-j.invariant in
    let b = based c.args.l.now c.args.e _ c.loop-j.base _ _ i.1 i.2 c.block_base-base.ensures in
    let x = entries_right c.args.l.now c.args.e _ _ i.0 c.entries_agree.ensures (ap not c.if-not-entries_agree.false) in (
      going_next c.args.l.now c.args.e _ _ i.0 64 (omega (arith, c.loop-j-test.true)) (omega (arith, c.loop-j-test.true)) _ c.in_ok-n.ensures x,
      omega (arith, b.below),
      later_next c.args.l.now c.args.e _ _ _ b x,
    )

pub returns-then-e-eq0 : goal.returns-then-e-eq0
returns-then-e-eq0 c = going_end c.args.l.now c.args.e _ _ c.loop-j.invariant.0 (unfold started in omega (arith, c.loop-j-test.false, c.if-e-eq0.true))

pub entries_agree-requires-2 : goal.entries_agree-requires-2
entries_agree-requires-2 c =
    let i = c.loop-j.invariant in
    let z : c.loop-j.j ≡ c.args.e.bits / 512 = omega (arith, c.loop-j-test.false, c.loop-j.auto) in
    let b = based c.args.l.now c.args.e _ c.loop-j.base _ c.block_base-base-2.result i.1 i.2 (rw (← z) at c.block_base-base-2.ensures) in
    (c.requires, omega (arith, c.if-e-eq0.false), rw z at b)

pub returns-then-not-entries_agree-2 : goal.returns-then-not-entries_agree-2
returns-then-not-entries_agree-2 c =
    let z : c.loop-j.j ≡ c.args.e.bits / 512 = omega (arith, c.loop-j-test.false, c.loop-j.auto) in
    entries_wrong c.args.l.now c.args.e _ _ (rw z at c.loop-j.invariant.0) (omega (arith, c.if-e-eq0.false)) c.entries_agree-2.ensures (ap not c.if-not-entries_agree-2.true)

pub part_ones-requires : goal.part_ones-requires
unfolding started
part_ones-requires c = (omega (arith, c.requires.before), omega arith, omega (arith, c.requires.edges), omega arith)

pub returns-in_err-rest : goal.returns-in_err-rest
returns-in_err-rest c =
    let l = c.args.l.now in
    let e = c.args.e in
    let size = e.edges + e.bits / 8 - (e.edges + 64 * (e.bits / 512)) in
    let z : c.loop-j.j ≡ e.bits / 512 = omega (arith, c.loop-j-test.false, c.loop-j.auto) in
    let g : Going l e (e.bits / 512) c.loop-j.n = rw z at c.loop-j.invariant.0 in
    rw c.from_residual-in_err-rest.ensures (part_wrong l e _ _ g size (omega (arith, c.if-e-eq0.false)) (omega arith) c.in_err-rest.ensures)

pub overflow_add-result : goal.overflow_add-result
overflow_add-result c =
    let l = c.args.l.now in
    let e = c.args.e in
    let size = e.edges + e.bits / 8 - (e.edges + 64 * (e.bits / 512)) in
    let z : c.loop-j.j ≡ e.bits / 512 = omega (arith, c.loop-j-test.false, c.loop-j.auto) in
    let g : Going l e (e.bits / 512) c.loop-j.n = rw z at c.loop-j.invariant.0 in
    omega (arith, sum_few l e _ _ g size _ (omega arith) c.in_ok-rest.ensures.1 c.requires.few)

pub returns : goal.returns
returns c =
    let l = c.args.l.now in
    let e = c.args.e in
    let size = e.edges + e.bits / 8 - (e.edges + 64 * (e.bits / 512)) in
    let z : c.loop-j.j ≡ e.bits / 512 = omega (arith, c.loop-j-test.false, c.loop-j.auto) in
    let g : Going l e (e.bits / 512) c.loop-j.n = rw z at c.loop-j.invariant.0 in
    let x = entries_right l e _ _ g c.entries_agree-2.ensures (ap not c.if-not-entries_agree-2.false) in
    going_end l e (e.bits / 512 + 1) _ (going_next l e _ _ g size (omega (arith, c.if-e-eq0.false)) (omega arith) _ c.in_ok-rest.ensures x) (unfold started in omega arith)
