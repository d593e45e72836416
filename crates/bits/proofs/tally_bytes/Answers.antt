use Rattle.std.proofs.Common.{rules, arith, ◌≡◌, ◌*◌, ◌-◌, ◌<◌, drop, take, length, length-drop}
use Rattle.std.proofs.lemmas.List.{get_or-take, length-take, length-take-le}
use Rattle.loes.specs.Bytes.{bits_in, tabulate}
use Rattle.loes.specs.Edges.{ones}
use Rattle.bits.proofs.Counts.{ones_bits_le, byte_counted}
use Rattle.bits.proofs.tally_bytes.Goals as goal

pub loop-x-init : goal.loop-x-init
unfolding bits_in tabulate ones
loop-x-init c = search rules

pub overflow_add-sum : goal.overflow_add-sum
overflow_add-sum c = omega (arith, c.tally-sum.ensures, c.loop-x.invariant, ones_bits_le (drop c.args.from c.args.l.now) (8 * c.loop-x.x-index))

pub loop-x-preserved : goal.loop-x-preserved
loop-x-preserved c =
    let a = c.args in
    let m = drop a.from a.l.now in
    let i = c.loop-x.x-index in
    let q : i < a.upto - a.from = omega (arith, c.loop-x-test.true, length-take (a.upto - a.from) m) in
    byte_counted m i _ _ c.loop-x.invariant (rw (get_or-take (a.upto - a.from) m i 0 q) at c.tally-sum.ensures.0)

pub returns : goal.returns
returns c =
    let a = c.args in
    let m = drop a.from a.l.now in
    let q : length (take (a.upto - a.from) m) ≡ a.upto - a.from = length-take-le (a.upto - a.from) m (omega (arith, length-drop a.from a.l.now)) in
    let i : c.loop-x.x-index ≡ a.upto - a.from = omega (arith, c.loop-x-test.false, q, c.loop-x.auto.x-index-end) in
    let e = rw i at c.loop-x.invariant in
    (e, omega (arith, e, ones_bits_le m (8 * (a.upto - a.from))))
