-- An opened encoding: the numbers of bytes that are the encoding of an entry, and where their fields lie.
use Rattle.std.specs.Prelude.{◌≡◌, ℕ, ◌+◌, ◌*◌, ◌<◌, ◌≤◌, Bool, List, length, drop}
use Rattle.loes.specs.Limits.{max_width, max_edges, max_bytes, block_bits, sub_block_bits}
use Rattle.loes.specs.Bytes.{Bytes, bits_in}
use Rattle.loes.specs.Entry.{count, edge_count}
use Rattle.loes.specs.Encode.{block_ones, sub_block_ones}
use Rattle.loes.specs.Read.{level_bytes, edge_bytes, block_bytes, sub_block_bytes, body_at, start3, start4, start5, start6, block_at, sub_block_at, entry_in, opened, read}
use Rattle.encoding.specs.declared.Encoding.{Encoding}

-- what every function behind the check relies on
pub record Opens (l : Bytes) (e : Encoding) : Type 0 where
  pub reads : read l ≡ opened (entry_in l)
  pub width : e.width ≡ (entry_in l).width
  pub count : e.count ≡ count (entry_in l)
  pub bits : e.bits ≡ edge_count (entry_in l)
  pub edges : e.edges ≡ body_at (start4 (entry_in l).width)
  pub blocks : e.blocks ≡ body_at (start5 (entry_in l).width (edge_count (entry_in l)))
  pub sub_blocks : e.sub_blocks ≡ body_at (start6 (entry_in l).width (edge_count (entry_in l)))

-- the numbers of width m, n keys and b edge bits, and where the fields lie for them
pub record Placed (m n b : ℕ) (e : Encoding) : Type 0 where
  pub width : e.width ≡ m
  pub count : e.count ≡ n
  pub bits : e.bits ≡ b
  pub edges : e.edges ≡ body_at (start4 m)
  pub blocks : e.blocks ≡ body_at (start5 m b)
  pub sub_blocks : e.sub_blocks ≡ body_at (start6 m b)

-- the edges at an encoding's place
unfoldable pub edges_at : Bytes → Encoding → List Bool
edges_at l e = bits_in (drop e.edges l) e.bits

-- the bodies of fields 3 to 6 lie in the bytes, with eight bytes and more before field 4's
pub record FieldsFit (l : Bytes) (e : Encoding) : Type 0 where
  pub narrow : e.width ≤ max_width
  pub few : e.bits ≤ max_edges
  pub bytes : length l ≤ max_bytes
  pub levels : body_at start3 + level_bytes e.width ≤ length l
  pub before : 8 ≤ e.edges
  pub edges : e.edges + edge_bytes e.bits ≤ length l
  pub blocks : e.blocks + block_bytes e.bits ≤ length l
  pub sub_blocks : e.sub_blocks + sub_block_bytes e.bits ≤ length l

-- fields 5 and 6 count the set bits of field 4
pub record Counted (l : Bytes) (e : Encoding) : Type 0 where
  pub blocks : (j : ℕ) → block_bits * j < e.bits → block_at l e.blocks j ≡ block_ones (edges_at l e) j
  pub sub_blocks : (j : ℕ) → sub_block_bits * j < e.bits → sub_block_at l e.sub_blocks j ≡ sub_block_ones (edges_at l e) j
