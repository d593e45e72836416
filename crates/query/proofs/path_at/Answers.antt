use Prim.Native.Nat.{◌-◌}
use native.Mathlib.Omega.{arith}
use Rattle.loes.specs.Read.{entry_in}
use Rattle.query.proofs.Ascent.{climb, up_start, turn_in, turn_level, turn_next, level_last, edge_few, up_end}
use Rattle.query.proofs.path_at.Goals as goal

pub overflow_add-record : goal.overflow_add-record
overflow_add-record c =
    let o = c.args.o.opens in
    let m = climb o c.requires.0 c.requires.1 in
    omega (arith, (up_start _ m.valid _ m.few c.args.offsets.now m.long _ _ o.width o.bits).0, m.valid.few)

pub loop-d-init : goal.loop-d-init
loop-d-init c =
    let o = c.args.o.opens in
    let m = climb o c.requires.0 c.requires.1 in
    ((up_start _ m.valid _ m.few _ m.long _ _ o.width o.bits).1, level_last _ _ _ o.width o.bits)

pub overflow_sub-record : goal.overflow_sub-record
overflow_sub-record c =
    let m = climb c.args.o.opens c.requires.0 c.requires.1 in
    omega (arith, (turn_level _ m.valid _ m.few _ m.long _ _ _ c.loop-d.invariant.0 c.loop-d-test.true).0, c.loop-d.invariant.1)

pub edge_up-edge-requires : goal.edge_up-edge-requires
edge_up-edge-requires c =
    let m = climb c.args.o.opens c.requires.0 c.requires.1 in
    let z = turn_in _ m.valid _ m.few _ m.long _ _ _ c.loop-d.invariant.0 c.loop-d-test.true in
    let y = (turn_level _ m.valid _ m.few _ m.long _ _ _ c.loop-d.invariant.0 c.loop-d-test.true).1 in
    (z.0, z.1, rw (c.level_start-start.ensures, c.loop-d.invariant.1) y)

pub overflow_mul-edge : goal.overflow_mul-edge
overflow_mul-edge c =
    let m = climb c.args.o.opens c.requires.0 c.requires.1 in
    omega (arith, c.edge_up-edge.ensures, edge_few (entry_in c.args.o.bytes.now) (c.loop-d.«record» - 1) m.valid)

pub loop-d-preserved : goal.loop-d-preserved
loop-d-preserved c =
    let m = climb c.args.o.opens c.requires.0 c.requires.1 in
    (turn_next _ m.valid _ m.few _ m.long _ _ _ c.loop-d.invariant.0 c.loop-d-test.true _ c.edge_up-edge.ensures, c.level_start-start.ensures)

pub returns : goal.returns
returns c =
    let m = climb c.args.o.opens c.requires.0 c.requires.1 in
    up_end _ m.valid _ m.few _ m.long _ _ _ c.loop-d.invariant.0 c.loop-d-test.false
