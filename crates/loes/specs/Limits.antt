-- The numbers that belong to the format.
use Rattle.std.specs.Prelude.{ℕ, ◌+◌, ◌/◌}

-- the greatest width of a key, in bits
abbrev pub max_width : ℕ
max_width = 256

-- the most bits that an edge sequence may have
abbrev pub max_edges : ℕ
max_edges = 524280

-- the edge bits of a block and of a sub-block
abbrev pub block_bits : ℕ
block_bits = 65536

abbrev pub sub_block_bits : ℕ
sub_block_bits = 512

-- the edge bytes of a sub-block
abbrev pub sub_block_size : ℕ
sub_block_size = sub_block_bits / 8

-- the bytes of a field's tag, of its length, and of both: its head
abbrev pub tag_bytes : ℕ
tag_bytes = 1

abbrev pub length_bytes : ℕ
length_bytes = 2

abbrev pub head_bytes : ℕ
head_bytes = tag_bytes + length_bytes

-- the bytes of the number in the body of field 1 and of field 2
abbrev pub width_bytes : ℕ
width_bytes = 2

abbrev pub count_bytes : ℕ
count_bytes = 4

-- the bytes of an entry of field 3, of field 5 and of field 6
abbrev pub level_entry : ℕ
level_entry = 4

abbrev pub block_entry : ℕ
block_entry = 8

abbrev pub sub_block_entry : ℕ
sub_block_entry = 2

-- the sub_blocks of a block
abbrev pub sub_blocks : ℕ
sub_blocks = block_bits / sub_block_bits

-- no encoding is longer (`end_most`)
abbrev pub max_bytes : ℕ
max_bytes = 68695
