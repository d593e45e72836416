use mathlib.Core.Path.{◌∙◌}
use Prim.Native.Nat.{◌<◌}
use native.Mathlib.Omega.{arith}
use lib.ListN.{length}
use Rattle.query.proofs.Select.{in_bytes, next_byte}
use Rattle.query.proofs.find_in_bytes.Goals as goal

pub bounds-edges-at : goal.bounds-edges-at
bounds-edges-at c = in_bytes c.args.edges.now c.loop-at.at.byte c.loop-at.at.number (omega (arith, c.loop-at.invariant, c.requires.1))

pub returns-then-at-ones : goal.returns-then-at-ones
returns-then-at-ones c =
    let i = c.loop-at.invariant in
    (in_bytes c.args.edges.now c.loop-at.at.byte c.loop-at.at.number (omega (arith, i, c.requires.1)), omega (arith, c.tally-ones.ensures.0, c.if-at-ones.true), i)

pub overflow_add-at : goal.overflow_add-at
overflow_add-at c = omega (arith, in_bytes c.args.edges.now c.loop-at.at.byte c.loop-at.at.number (omega (arith, c.loop-at.invariant, c.requires.1)), c.requires.0)

pub loop-at-smaller : goal.loop-at-smaller
loop-at-smaller c =
    let z : c.loop-at.at.byte < length c.args.edges.now = in_bytes c.args.edges.now c.loop-at.at.byte c.loop-at.at.number (omega (arith, c.loop-at.invariant, c.requires.1)) in
    omega (arith, z)

pub loop-at-preserved : goal.loop-at-preserved
loop-at-preserved c = next_byte c.args.edges.now c.loop-at.at.byte c.loop-at.at.number c.tally-ones.result c.tally-ones.ensures.0 c.if-at-ones.false ∙ c.loop-at.invariant
