use mathlib.Core.Path.{◌≡◌}
use Prim.Native.Nat.{◌+◌}
use native.Mathlib.Omega.{arith}
use Rattle.pack.proofs.SetBits.{bits_past}
use Rattle.pack.specs.Batch.{row_offset}
use Prim.Native.Nat.{ℕ, ◌*◌, ◌+◌}
use Rattle.pack.proofs.SetBits.{more, bits_past}
use Rattle.pack.proofs.mark_level.Goals as goal

pub loop-i-init : goal.loop-i-init
loop-i-init c = let a = c.args in bits_past (row_offset a.batch a.e a.first.0) 0 0 a.edges.now (omega arith)

pub loop-i-preserved : goal.loop-i-preserved
loop-i-preserved c = let a = c.args in more (row_offset a.batch a.e a.first.0) c.loop-i.i 1 a.edges.now c.loop-i.edges c.mark_one.new.edges c.loop-i.invariant c.mark_one.ensures

pub loop-j-preserved : goal.loop-j-preserved
loop-j-preserved c =
    let a = c.args in
    let i : ℕ = c.min-before.result + 4 * c.loop-j.j in
    let z : c.min-before.result + 4 * (c.loop-j.j + 1) ≡ i + 4 = omega arith in
    rw z (more (row_offset a.batch a.e a.first.0) i 4 a.edges.now c.loop-j.edges c.mark_four.new.edges c.loop-j.invariant c.mark_four.ensures)

pub loop-i-2-preserved : goal.loop-i-2-preserved
loop-i-2-preserved c = let a = c.args in more (row_offset a.batch a.e a.first.0) c.loop-i-2.i 1 a.edges.now c.loop-i-2.edges c.mark_one-in-loop-i-2.new.edges c.loop-i-2.invariant c.mark_one-in-loop-i-2.ensures
