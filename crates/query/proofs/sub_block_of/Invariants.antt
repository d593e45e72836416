use Prim.Native.Nat.{◌+◌, ◌*◌, ◌-◌, ◌≤◌, ◌<◌}
use Rattle.loes.specs.Limits.{sub_block_bits, sub_blocks}
use Rattle.loes.specs.Encode.{sub_block_ones}
use Rattle.loes.specs.Entry.{edges_of}
use Rattle.loes.specs.Read.{entry_in}
use Rattle.query.proofs.sub_block_of.Given as goal

abbrev pub invariant-loop-low : goal.invariant-loop-low
invariant-loop-low l = ((sub_blocks * l.block ≤ l.low) × (l.low < l.high) × (l.high ≤ sub_blocks * l.block + sub_blocks)) × (sub_block_bits * l.low < l.o.encoding.bits) × (sub_block_ones (edges_of (entry_in l.o.bytes.now)) l.low ≤ l.k)
    × (l.high < sub_blocks * l.block + sub_blocks → sub_block_bits * l.high < l.o.encoding.bits → l.k < sub_block_ones (edges_of (entry_in l.o.bytes.now)) l.high)

abbrev pub decreases-loop-low : goal.decreases-loop-low
decreases-loop-low l = l.high - l.low
