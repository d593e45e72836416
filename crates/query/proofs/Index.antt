-- The index fields choose where a search for a set bit starts.
use mathlib.Core.Path.{◌≡◌, refl, sym, ap, ap₂, ◌∙◌}
use Prim.Native.Nat.{ℕ, suc, ◌+◌, ◌-◌, ◌*◌, ◌/◌, ◌%◌, ◌≤◌, ◌<◌}
use mathlib.Core.Bool.{Bool}
use mathlib.Core.List.{List}
use native.Mathlib.Omega.{arith}
use native.Mathlib.Decide.{dec_le}
use lib.Seq.{take_all, get_or-drop, drop-drop}
use lib.ListN.{length, drop, get_or, length-drop}
use Rattle.loes.specs.Limits.{block_bits, sub_block_bits}
use Rattle.loes.specs.Bytes.{Bytes, started, number_at, bits_in}
use Rattle.loes.specs.Edges.{ones, rank}
use Rattle.loes.specs.Entry.{edges_of, edge_count}
use Rattle.loes.specs.Encode.{block_ones, sub_block_ones}
use Rattle.loes.specs.Read.{start5, entry_in}
use Rattle.bits.specs.Tables.{select, place_of}
use Rattle.bits.proofs.Counts.{rank_bits, ones_at}
use Rattle.loes.proofs.Lists.{ones_le}
use Rattle.encoding.specs.declared.Encoding.{Encoding}
use Rattle.encoding.specs.Opened.{Opens, edges_at}
use Rattle.encoding.proofs.Opened.{opens_room, opens_edges, opens_counted, room_at}
use Rattle.encoding.proofs.Index.{sub_block_start}
use Rattle.query.specs.Select.{numbered, InByte}
use Rattle.query.proofs.Select.{byte_few, found_byte, ones_mono, select_more}

rank_all : (e : List Bool) (n : ℕ) → length e ≤ n → rank e n ≡ ones e
unfolding rank
rank_all e n h = ap ones (take_all n e h)

pub first_block : (e : List Bool) → block_ones e 0 ≡ 0
unfolding block_ones rank ones
first_block e = refl

module _ (l : Bytes) (e : Encoding) (o : Opens l e) where
  pub block_at : (j : ℕ) → block_bits * j < e.bits → (e.blocks + 8 * j + 8 ≤ length l) × (number_at 8 l (e.blocks + 8 * j) ≡ block_ones (edges_of (entry_in l)) j)
  unfolding started
  block_at j h = (omega (arith, (opens_room l e o).blocks), (opens_counted l e o).blocks j h ∙ ap (λ x. block_ones x j) (opens_edges l e o))

  pub sub_block_at : (j : ℕ) → sub_block_bits * j < e.bits
      → (e.sub_blocks + 2 * j + 2 ≤ length l) × (number_at 2 l (e.sub_blocks + 2 * j) ≡ sub_block_ones (edges_of (entry_in l)) j)
  unfolding started
  sub_block_at j h = (omega (arith, (opens_room l e o).sub_blocks), (opens_counted l e o).sub_blocks j h ∙ ap (λ x. sub_block_ones x j) (opens_edges l e o))

  -- the edge bytes and what follows, as a part of the bytes
  module _ (d : Bytes) (part : d ≡ drop e.edges l) where
    -- a sub-block's start, and the set bits left from there on
    pub start_is : (k block sub a c : ℕ) → sub / 128 ≡ block → sub_block_bits * sub < e.bits → a ≡ block_ones (edges_of (entry_in l)) block → a ≤ k
        → c ≡ sub_block_ones (edges_of (entry_in l)) sub → c ≤ k - a → numbered d (64 * sub) (k - a - c) ≡ k
    unfolding numbered edges_at
    start_is k block sub a c q h ea la ec lc =
        let z : 8 * (64 * sub) ≡ 512 * sub = omega arith in
        let y : rank (edges_of (entry_in l)) (512 * sub) ≡ ones (bits_in d (8 * (64 * sub))) =
        ap (λ x. rank x (512 * sub)) (sym (opens_edges l e o)) ∙ rank_bits (drop e.edges l) e.bits (512 * sub) (omega arith)
        ∙ ap₂ (λ x y. ones (bits_in x y)) (sym part) (sym z) in
        omega (arith, y, sub_block_start (edges_of (entry_in l)) sub, ea, ec, ap (block_ones (edges_of (entry_in l))) q)

    -- the set bits of the edges come first, and eight bytes and more follow theirs
    pub select_is : (k : ℕ) → k < ones (edges_of (entry_in l)) → (k < ones (bits_in d (8 * (length d - 8)))) × (select (bits_in d (8 * length d)) k ≡ select (edges_of (entry_in l)) k)
    unfolding edges_at started start5 edge_count
    select_is k h =
        let n : length d ≡ length l - e.edges = ap length part ∙ length-drop e.edges l in
        let some : 0 < e.bits = omega (arith, h, o.bits, ones_le (edges_of (entry_in l))) in
        let r : e.bits ≤ 8 * (length d - 8) = omega (arith, n, some, (opens_room l e o).blocks, o.blocks, o.edges, o.bits) in
        let b : bits_in d e.bits ≡ edges_of (entry_in l) = ap (λ x. bits_in x e.bits) part ∙ opens_edges l e o in
        let y : k < ones (bits_in d e.bits) = rw b h in
        (let z = ones_mono d e.bits (8 * (length d - 8)) r in omega (arith, y, z), select_more d e.bits (8 * length d) k (omega arith) y ∙ ap (λ x. select x k) b)

    -- from an offset on: the byte of the offset, and its bits before the offset
    pub behind_is : (from k c : ℕ) → rank (edges_of (entry_in l)) from + k < ones (edges_of (entry_in l))
        → c ≡ ones (bits_in (drop (e.edges + from / 8) l) (from % 8)) → (from < e.bits) × (numbered d (from / 8) (c + k) ≡ rank (edges_of (entry_in l)) from + k)
    unfolding numbered edges_at edge_count
    behind_is from k c h ec =
        let x : List Bool = edges_of (entry_in l) in
        let z : 8 * (from / 8) + from % 8 ≡ from = omega arith in
        let lt : from < e.bits = elim (dec_le (suc from) e.bits) [
          | yes y ↦ y
          | no y ↦ absurd (let q = rank_all x from (omega (arith, o.bits)) in omega (arith, h, q))
        ] in
        let y : rank x from ≡ ones (bits_in d from) =
        ap (λ v. rank v from) (sym (opens_edges l e o)) ∙ rank_bits (drop e.edges l) e.bits from (omega arith) ∙ ap (λ v. ones (bits_in v from)) (sym part) in
        let w : drop (from / 8) d ≡ drop (e.edges + from / 8) l = ap (drop (from / 8)) part ∙ drop-drop (from / 8) e.edges l in
        (lt, omega (arith, y, ec, ap (λ v. ones (bits_in v (from % 8))) w, ones_at d (from / 8) (from % 8) from z))

  -- the byte of an offset with set bits behind it lies in the bytes
  pub behind_in : (from k : ℕ) → rank (edges_of (entry_in l)) from + k < ones (edges_of (entry_in l)) → e.edges + from / 8 < length l
  behind_in from k h = (room_at l e from (opens_room l e o) (behind_is (drop e.edges l) refl from k _ h refl).0).0

  -- an edge that is set bit number k of byte i of the edges
  pub edge_in_byte : (n i k : ℕ) → n < ones (edges_of (entry_in l)) → InByte (drop e.edges l) n i k
      → (e.edges + i < length l) × (k < 8) × (8 * i + place_of (get_or l (e.edges + i) 0) k ≡ select (edges_of (entry_in l)) n)
  edge_in_byte n i k h b =
      let d : Bytes = drop e.edges l in
      let f = found_byte d i k n b ∙ (select_is d refl n h).1 in (
        omega (arith, b.0, length-drop e.edges l),
        omega (arith, b.1, byte_few (get_or d i 0)),
        rw (get_or-drop e.edges l i 0) at f,
      )
