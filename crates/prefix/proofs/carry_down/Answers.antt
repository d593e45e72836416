use Prim.Native.Nat.{suc, ◌+◌, ◌-◌, ◌*◌}
use mathlib.Core.Path.{◌≡◌}
use native.Mathlib.Omega.{arith}
use Rattle.loes.specs.Entry.{edges_of}
use Rattle.loes.specs.Read.{entry_in}
use Rattle.loes.proofs.Lists.{rank_le}
use Rattle.encoding.proofs.Opened.{opens_room}
use Rattle.prefix.specs.Cuts.{carried}
use Rattle.prefix.proofs.Cuts.{cut_le, cut_next}
use Rattle.prefix.proofs.carry_down.Goals as goal

pub ones_before-n-requires : goal.ones_before-n-requires
ones_before-n-requires c =
    let o = c.args.o.opens in
    omega (arith, cut_le _ c.loop.invariant.0 (omega (arith, c.loop-test.true, o.width)), o.bits)

pub overflow_mul-n : goal.overflow_mul-n
overflow_mul-n c =
    let o = c.args.o.opens in
    omega (arith, cut_le _ c.loop.invariant.0 (omega (arith, c.loop-test.true, o.width)), o.bits, (opens_room _ _ o).few)

pub overflow_add-n : goal.overflow_add-n
overflow_add-n c =
    let o = c.args.o.opens in
    omega (arith, cut_le _ c.loop.invariant.0 (omega (arith, c.loop-test.true, o.width)), o.bits, c.ones_before-n.ensures, (rank_le (edges_of (entry_in c.args.o.bytes.now)) (2 * c.loop.n)).0, (opens_room _ _ o).few)

pub loop-preserved : goal.loop-preserved
unfolding carried
loop-preserved c =
    let o = c.args.o.opens in
    let t = c.loop-test.true in
    let z : c.args.o.encoding.width - c.loop.counter ≡ suc (c.args.o.encoding.width - (c.loop.counter + 1)) = omega (arith, t) in (
      rw c.ones_before-n.ensures (cut_next _ c.loop.invariant.0 (omega (arith, t, o.width)) (omega (arith, c.requires.0, o.bits))),
      rw c.ones_before-n.ensures (rw z at c.loop.invariant.1),
    )

pub returns : goal.returns
unfolding carried
returns c =
    let z : c.args.o.encoding.width - c.loop.counter ≡ 0 = omega (arith, c.loop-test.false) in
    rw z at c.loop.invariant.1
