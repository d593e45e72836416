use native.Mathlib.Omega.{arith}
use Rattle.restrict.proofs.Compacting.{compact_none, compact_block, compact_less}
use Rattle.restrict.proofs.compact_blocks.Goals as goal

pub loop-i-init : goal.loop-i-init
loop-i-init c = (compact_none, omega arith, omega arith)

pub compact_block-k-requires : goal.compact_block-k-requires
compact_block-k-requires c = let v = c.loop-i.invariant in
    (omega (arith, c.requires, c.loop-i-test.true), c.if-k-out.true, omega (arith, compact_less v.0, c.requires, v.1))

pub loop-i-preserved : goal.loop-i-preserved
loop-i-preserved c = let v = c.loop-i.invariant in
    (compact_block v.0 v.2 c.compact_block-k.ensures, omega (arith, c.loop-i-test.true), omega (arith, v.2))
