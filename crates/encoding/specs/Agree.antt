-- What the check of 7 finds, part by part.
use Rattle.std.specs.Prelude.{◌≡◌, ℕ, suc, ◌+◌, ◌*◌, ◌/◌, ◌%◌, ◌^◌, ◌-◌, ◌<◌, ◌≤◌, Bool, true, get_or, drop, Option, Some, None}
use Rattle.loes.specs.Limits.{sub_blocks}
use Rattle.loes.specs.Bytes.{Bytes, bits_in}
use Rattle.loes.specs.Edges.{ones}
use Rattle.loes.specs.Prefixes.{roots, ends}
use Rattle.loes.specs.Read.{level_at, block_at, sub_block_at}
use Rattle.bits.specs.Tables.{none_empty}
use Rattle.encoding.specs.declared.Encoding.{Encoding}
use Rattle.encoding.specs.Opened.{edges_at, Counted}

-- a Bool that tells whether something holds
abbrev pub Decides : Bool → Type 0 → Type 0
Decides r P = (r ≡ true → P) × (P → r ≡ true)

-- the entries of sub-block j and of its block, against n set bits before it
abbrev pub EntriesAt : Bytes → Encoding → ℕ → ℕ → Type 0
EntriesAt l e j n =
    (block_at l e.blocks (j / sub_blocks) + sub_block_at l e.sub_blocks j ≡ n)
    × (j % sub_blocks ≡ 0 → block_at l e.blocks (j / sub_blocks) ≡ n)

-- `base` set bits before the block of sub-block j, n before the sub-block: they are the same at a block's first, and behind it the block's entry is right
pub record BlockBase (l : Bytes) (e : Encoding) (j base n : ℕ) : Type 0 where
  pub below : base ≤ n
  pub first : j % sub_blocks ≡ 0 → base ≡ n
  pub later : (j % sub_blocks ≡ 0 → ⊥) → block_at l e.blocks (j / sub_blocks) ≡ base

-- so many edges are counted faster than looked up
abbrev pub near : ℕ
near = 256

-- the first n bytes: no record is empty, and so many bits are set
abbrev pub BytesTallied : Bytes → ℕ → Option ℕ → Type 0
BytesTallied l n (Some k) = (none_empty (bits_in l (8 * n)) ≡ true) × (k ≡ ones (bits_in l (8 * n)))
BytesTallied l n None = none_empty (bits_in l (8 * n)) ≡ true → ⊥

-- the whole edge bytes: fields 5 and 6 are right, no record is empty, and so many bits are set
abbrev pub WholeRight : Bytes → Encoding → Type 0
WholeRight l e = Counted l e × (none_empty (bits_in (drop e.edges l) (8 * (e.bits / 8))) ≡ true)

abbrev pub Whole : Bytes → Encoding → Option ℕ → Type 0
Whole l e (Some n) = WholeRight l e × (n ≡ ones (bits_in (drop e.edges l) (8 * (e.bits / 8))))
Whole l e None = WholeRight l e → ⊥

-- the edges behind the whole bytes
unfoldable pub last_edges : Bytes → Encoding → Bytes
last_edges l e = drop (e.bits / 8) (drop e.edges l)

-- left-over bits are clear, and no record is empty
abbrev pub LastRight : Bytes → Encoding → Type 0
LastRight l e =
    (0 < e.bits % 8 → get_or (drop e.edges l) (e.bits / 8) 0 % 2 ^ (8 - e.bits % 8) ≡ 0)
    × (none_empty (bits_in (last_edges l e) (e.bits % 8)) ≡ true)

abbrev pub Last : Bytes → Encoding → Option ℕ → Type 0
Last l e (Some n) = LastRight l e × (n ≡ ones (bits_in (last_edges l e) (e.bits % 8)))
Last l e None = LastRight l e → ⊥

-- field 3 has the ends of the levels
abbrev pub Levelled : Bytes → Encoding → Type 0
Levelled l e = (d : ℕ) → d < e.width → level_at l d ≡ ends (roots e.bits) (edges_at l e) (suc d)
