-- Set bits before an offset: those before its block, those before its sub-block, and those counted from there on.
use mathlib.Core.Path.{◌≡◌, refl, sym, ap, ap₂, ◌∙◌}
use Prim.Native.Nat.{ℕ, zero, suc, ◌+◌, ◌-◌, ◌*◌, ◌/◌, ◌%◌, ◌≤◌, ◌<◌}
use mathlib.Core.Bool.{Bool}
use mathlib.Core.List.{List}
use native.Mathlib.Omega.{arith}
use lib.ListN.{length, take, drop, length-take, length-drop}
use lib.Seq.{take-add, drop-drop}
use Rattle.loes.specs.Bytes.{Bytes, started, bits_in}
use Rattle.loes.specs.Edges.{ones, rank}
use Rattle.loes.specs.Encode.{block_ones, sub_block_ones}
use Rattle.loes.proofs.Lists.{ones_append, rank_le}
use Rattle.loes.proofs.Reading.{bits_cut}
use Rattle.bits.proofs.Counts.{rank_bits, ones_more}
use Rattle.encoding.specs.declared.Encoding.{Encoding}
use Rattle.encoding.specs.Opened.{FieldsFit, Counted, edges_at}
use Rattle.encoding.specs.Counting.{lent, count_sub_block, counted_to, BlockFits, CountingRanks}
use Rattle.encoding.proofs.Opened.{length_edges_at, opens_room, opens_counted, opens_edges}

-- the set bits before an offset, from those before byte i on
from_byte : (l : Bytes) (e : Encoding) (i n : ℕ) → 8 * i + n ≤ e.bits → rank (edges_at l e) (8 * i + n) ≡ rank (edges_at l e) (8 * i) + ones (bits_in (drop (e.edges + i) l) n)
unfolding edges_at
from_byte l e i n h =
    let y : Bytes = drop e.edges l in
    rank_bits y e.bits (8 * i + n) h ∙ ones_more y i n
    ∙ ap₂ ◌+◌ (sym (rank_bits y e.bits (8 * i) (omega arith))) (ap (λ v. ones (bits_in v n)) (drop-drop i e.edges l))

-- from the byte of an offset before it on, with the bits before that one in its byte counted twice
pub ones_by_byte : (l : Bytes) (e : Encoding) (m n : ℕ) → m < n → n ≤ e.bits → let first = e.edges + m / 8 in let at = e.edges + (n - 1) / 8 in
    rank (edges_at l e) m + (ones (bits_in (drop first l) (8 * (at - first))) + ones (bits_in (drop at l) ((n - 1) % 8 + 1))) ≡ rank (edges_at l e) n + ones (bits_in (drop first l) (m % 8))
ones_by_byte l e m n p h =
    let x : List Bool = edges_at l e in
    let i : ℕ = m / 8 in
    let o : ℕ = n - 1 in
    let w : ℕ = e.edges + o / 8 - (e.edges + i) in
    let zm : 8 * i + m % 8 ≡ m = omega arith in
    let zw : 8 * i + 8 * w ≡ 8 * (o / 8) = omega arith in
    let zn : 8 * (o / 8) + (o % 8 + 1) ≡ n = omega arith in
    omega
    (arith, from_byte l e i (m % 8) (omega arith), ap (rank x) zm, from_byte l e i (8 * w) (omega arith), ap (rank x) zw, from_byte l e (o / 8) (o % 8 + 1) (omega arith), ap (rank x) zn)

-- to the start of a sub-block
pub sub_block_start : (e : List Bool) (j : ℕ) → block_ones e (j / 128) + sub_block_ones e j ≡ rank e (512 * j)
unfolding block_ones sub_block_ones rank
sub_block_start e j =
    let z : 65536 * (j / 128) + 512 * (j % 128) ≡ 512 * j = omega arith in
    sym (ones_append (take (65536 * (j / 128)) e) (take (512 * (j % 128)) (drop (65536 * (j / 128)) e)))
    ∙ ap ones (sym (take-add (65536 * (j / 128)) (512 * (j % 128)) e)) ∙ ap (λ n. ones (take n e)) z

-- what is lent for a bit: so many bytes, which have the bits from the sub-block's start to it
module _ (l : Bytes) (e : Encoding) (bit : ℕ) (r : FieldsFit l e) (h : bit < e.bits) where
  abbrev behind : Bytes
  behind = drop (e.edges + 64 * (bit / 512)) l

  abbrev size : ℕ
  size = bit % 512 / 8 + 1

  pub lent_length : length (lent l e bit) ≡ size
  unfolding lent started
  lent_length = omega (arith, length-take size behind, length-drop (e.edges + 64 * (bit / 512)) l, r.edges)

  lent_bits : bits_in (lent l e bit) (bit % 512 + 1) ≡ bits_in behind (bit % 512 + 1)
  unfolding lent
  lent_bits = bits_cut behind size (bit % 512 + 1) (omega (arith, lent_length))

-- a block's entry is no more than the edges
pub block_fits : (l : Bytes) (e : Encoding) (o : ℕ) → FieldsFit l e → Counted l e → o ≤ e.bits → BlockFits l e o
unfolding block_ones
block_fits l e o r c h p =
    let j : ℕ = (o - 1) / 65536 in
    omega (arith, c.blocks j (omega arith), (rank_le (edges_at l e) (65536 * j)).1, length_edges_at l e, r.few)

-- what is counted is the rank: to the start of the sub-block of the last bit before an offset, and from there on
pub counted_rank : (l : Bytes) (e : Encoding) (o : ℕ) → FieldsFit l e → Counted l e → o ≤ e.bits → counted_to l e o ≡ rank (edges_at l e) o
unfolding counted_to count_sub_block
counted_rank l e zero r c h = unfold rank ones in refl
counted_rank l e (suc o) r c h =
    let x : List Bool = edges_at l e in
    let j : ℕ = o / 512 in
    let n : ℕ = o % 512 + 1 in
    let zb : j / 128 ≡ o / 65536 = omega arith in
    let zj : 512 * j ≡ 8 * (64 * j) = omega arith in
    let zo : 8 * (64 * j) + n ≡ suc o = omega arith in
    omega
    (arith, c.blocks (o / 65536) (omega arith), c.sub_blocks j (omega arith), ap (block_ones x) zb, sub_block_start x j, ap (rank x) zj, ap ones (lent_bits l e o r (omega arith)), from_byte l e (64 * j) n (omega arith), ap (rank x) zo)

-- at every offset of every encoding
pub counting_ranks : CountingRanks
counting_ranks l e p o h = counted_rank l e o (opens_room l e p) (opens_counted l e p) h ∙ ap (λ x. rank x o) (opens_edges l e p)

-- the bytes that the counting is lent, as the code takes them
pub lent_part : (l : Bytes) (e : Encoding) (last : ℕ) → let from = e.edges + 64 * (last / 512) in take (e.edges + last / 8 + 1 - from) (drop from l) ≡ lent l e last
unfolding lent
lent_part l e last =
    let from : ℕ = e.edges + 64 * (last / 512) in
    let z : e.edges + last / 8 + 1 - from ≡ last % 512 / 8 + 1 = omega arith in
    ap (λ n. take n (drop from l)) z
