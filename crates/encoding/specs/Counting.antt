-- Rank by counting: what the counting is lent of an encoding, what it makes of it, and that this is the rank.
use Rattle.std.specs.Prelude.{◌≡◌, ℕ, zero, suc, ◌+◌, ◌-◌, ◌*◌, ◌/◌, ◌%◌, ◌<◌, ◌≤◌, take, drop}
use Rattle.loes.specs.Limits.{max_edges, block_bits, sub_block_bits, sub_block_size}
use Rattle.loes.specs.Bytes.{Bytes, bits_in}
use Rattle.loes.specs.Edges.{ones, rank}
use Rattle.loes.specs.Entry.{edges_of}
use Rattle.loes.specs.Read.{block_at, sub_block_at, entry_in}
use Rattle.encoding.specs.declared.Encoding.{Encoding}
use Rattle.encoding.specs.Opened.{Opens}

-- of field 4 it is lent, for a bit, the bytes of the bit's sub-block up to the one that the bit is in
unfoldable pub lent : Bytes → Encoding → ℕ → Bytes
lent l e bit = take (bit % sub_block_bits / 8 + 1) (drop (e.edges + sub_block_size * (bit / sub_block_bits)) l)

-- an entry of field 5, one of field 6, and the set bits among the first n of the bytes that it is lent
unfoldable pub count_sub_block : ℕ → ℕ → Bytes → ℕ → ℕ
count_sub_block block sub-block edges n = block + sub-block + ones (bits_in edges n)

-- up to an offset: nothing before offset 0; else the entries and bytes are those of the sub-block of the last bit before it, also where that bit ends it
unfoldable pub counted_to : Bytes → Encoding → ℕ → ℕ
counted_to l e zero = 0
counted_to l e (suc last) =
    count_sub_block (block_at l e.blocks (last / block_bits)) (sub_block_at l e.sub_blocks (last / sub_block_bits))
    (lent l e last) (last % sub_block_bits + 1)

-- the block's entry that it is lent is no more than an encoding can have edges
abbrev pub BlockFits : Bytes → Encoding → ℕ → Type 0
BlockFits l e o = 0 < o → block_at l e.blocks ((o - 1) / block_bits) ≤ max_edges

-- at every offset from 0 to b of every encoding it is the rank
abbrev pub CountingRanks : Type 0
CountingRanks = (l : Bytes) (e : Encoding) → Opens l e → (o : ℕ) → o ≤ e.bits → counted_to l e o ≡ rank (edges_of (entry_in l)) o
