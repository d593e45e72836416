use Rattle.std.proofs.Common.{◌≡◌, ◌+◌, ◌*◌, ◌/◌, ◌%◌, ◌≤◌}
use Rattle.loes.specs.Limits.{block_entry, sub_block_entry}
use Rattle.loes.specs.Bytes.{big_endians, bits_in, front}
use Rattle.loes.specs.Encode.{block_ones, sub_block_ones}
use Rattle.build.proofs.put_counts.Given as goal

-- the counts before sub-block j are written, and those of its block are known unless it is the block's first
abbrev pub invariant-loop-j : goal.invariant-loop-j
invariant-loop-j l = record {
  same : l.seen.edges.now ≡ l.edges;
  near : l.seen.bytes ≤ 64 * l.j;
  low : l.base ≤ l.seen.ones;
  base : (l.j % 128 ≡ 0 → ⊥) → l.base ≡ block_ones (bits_in l.edges l.b) (l.j / 128);
  of_blocks : l.blocks ≡ front (big_endians block_entry (block_ones (bits_in l.edges l.b)) ((l.j + 127) / 128)) l.initial.blocks;
  of_sub_blocks : l.sub_blocks ≡ front (big_endians sub_block_entry (sub_block_ones (bits_in l.edges l.b)) l.j) l.initial.sub_blocks;
}
