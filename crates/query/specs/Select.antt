-- Set bits by their number, and where levels begin.
use Rattle.std.specs.Prelude.{◌≡◌, ℕ, ◌+◌, ◌*◌, ◌/◌, ◌<◌, ◌≤◌, Bool, List, length, get_or}
use Rattle.loes.specs.Limits.{block_bits, sub_block_bits, sub_blocks}
use Rattle.loes.specs.Bytes.{Bytes, bits_in}
use Rattle.loes.specs.Edges.{ones, edges_before}
use Rattle.loes.specs.Entry.{Entry}
use Rattle.loes.specs.Encode.{block_ones, sub_block_ones}
use Rattle.bits.specs.Tables.{bits8}

-- the number of the set bit that has so many set bits before it from byte `from` on
unfoldable pub numbered : Bytes → ℕ → ℕ → ℕ
numbered l from left = ones (bits_in l (8 * from)) + left

-- set bit number n of bytes is number k of byte i
abbrev pub InByte : Bytes → ℕ → ℕ → ℕ → Type 0
InByte l n i k = (i < length l) × (k < ones (bits8 (get_or l i 0))) × (numbered l i k ≡ n)

-- of b edges: block j is the last with at most k set bits before it
abbrev pub LastBlock : List Bool → ℕ → ℕ → ℕ → Type 0
LastBlock e b k j = (block_bits * j < b) × (block_ones e j ≤ k) × (block_bits * (j + 1) < b → k < block_ones e (j + 1))

-- of b edges: sub-block j is the last of its block with at most k set bits of the block before it
abbrev pub LastBy : List Bool → ℕ → ℕ → ℕ → ℕ → Type 0
LastBy e b block k j =
    (j / sub_blocks ≡ block) × (sub_block_bits * j < b) × (sub_block_ones e j ≤ k)
    × ((j + 1) / sub_blocks ≡ block → sub_block_bits * (j + 1) < b → k < sub_block_ones e (j + 1))

-- where level d begins: the edge bits of the levels before it
unfoldable pub level_start : Entry → ℕ → ℕ
level_start e d = length (edges_before d e.width e.set)
