-- The encoding of an entry (document 01: its book): six fields.
use Rattle.std.specs.Prelude.{ℕ, suc, ◌*◌, ◌/◌, ◌%◌, Bool, length, drop}
use mathlib.Core.List.{List, [], ◌∷◌, ◌++◌, flatten}
use Rattle.loes.specs.Limits.{block_bits, sub_block_bits, sub_blocks, length_bytes, width_bytes, count_bytes, level_entry, block_entry, sub_block_entry}
use Rattle.loes.specs.Bytes.{Bytes, started, big_endian, big_endians, pack_bits}
use Rattle.loes.specs.Edges.{edges_before, rank}
use Rattle.loes.specs.Entry.{Entry, count, edges_of, edge_count}

-- a field: a one-byte tag, a two-byte length and that many bytes
unfoldable pub field : ℕ → Bytes → Bytes
field tag body = tag ∷ (big_endian length_bytes (length body) ++ body)

-- set bits from the start of the sequence to the start of block j
unfoldable pub block_ones : List Bool → ℕ → ℕ
block_ones e j = rank e (block_bits * j)

-- set bits from the start of its block to the start of sub-block j
unfoldable pub sub_block_ones : List Bool → ℕ → ℕ
sub_block_ones e j = rank (drop (block_bits * (j / sub_blocks)) e) (sub_block_bits * (j % sub_blocks))

-- edge bits in level d and all levels before it
unfoldable pub level_end : Entry → ℕ → ℕ
level_end e d = length (edges_before (suc d) e.width e.set)

-- ---- The bodies of the fields, by tag
-- 1: m
unfoldable pub width_body : Entry → Bytes
width_body e = big_endian width_bytes e.width

-- 2: n
unfoldable pub count_body : Entry → Bytes
count_body e = big_endian count_bytes (count e)

-- 3: for each level, the edge bits in it and all levels before it
unfoldable pub level_body : Entry → Bytes
level_body e = big_endians level_entry (level_end e) e.width

-- 4: the edges
unfoldable pub edge_body : Entry → Bytes
edge_body e = pack_bits (edges_of e)

-- 5: for each started block, the set bits before it
unfoldable pub block_body : Entry → Bytes
block_body e = big_endians block_entry (block_ones (edges_of e)) (started block_bits (edge_count e))

-- 6: for each started sub-block, the set bits of its block before it
unfoldable pub sub_block_body : Entry → Bytes
sub_block_body e = big_endians sub_block_entry (sub_block_ones (edges_of e)) (started sub_block_bits (edge_count e))

unfoldable pub encode : Entry → Bytes
encode e =
    flatten
    (field 1 (width_body e)
    ∷ field 2 (count_body e)
    ∷ field 3 (level_body e)
    ∷ field 4 (edge_body e)
    ∷ field 5 (block_body e)
    ∷ field 6 (sub_block_body e)
    ∷ [])
