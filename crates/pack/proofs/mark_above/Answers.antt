use mathlib.Core.Path.{◌≡◌}
use Prim.Native.Nat.{◌+◌, ◌-◌}
use native.Mathlib.Omega.{arith}
use Rattle.pack.proofs.SetBits.{bits_past, bits_more}
use Rattle.pack.specs.Marking.{second_edges}
use Rattle.pack.proofs.mark_above.Goals as goal

pub returns-then-new-eq0 : goal.returns-then-new-eq0
returns-then-new-eq0 c =
    let a = c.args in
    let z : a.new - (a.new - 1) ≡ a.new - 1 - (a.new - 1) = omega (arith, c.if-new-eq0.true) in
    rw z (bits_past (second_edges a.cursors.now) (a.new - 1) (a.new - 1) a.edges.now (omega arith))

pub returns : goal.returns
unfolding second_edges
returns c =
    let a = c.args in
    let o = second_edges a.cursors.now in
    let z : a.new - 1 + 1 ≡ a.new = omega (arith, c.if-new-eq0.false) in
    rw z at (bits_more o (a.new - 1) (a.new - 1) a.edges.now a.edges.now c.set_bit.new.b (omega arith) (bits_past o (a.new - 1) (a.new - 1) a.edges.now (omega arith)) c.set_bit.ensures)
