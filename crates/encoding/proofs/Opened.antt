-- What follows for an opened encoding.
use mathlib.Core.Path.{◌≡◌, refl, sym, ap, ◌∙◌, subst}
use Prim.Native.Nat.{ℕ, suc, ◌+◌, ◌-◌, ◌*◌, ◌/◌, ◌<◌, ◌≤◌}
use mathlib.Core.Bool.{false}
use native.Mathlib.Omega.{arith}
use native.Mathlib.Nat.{le-div_iff_mul-le, mul_comm, suc-mul}
use lib.ListN.{length, drop, get_or, length-drop}
use Rattle.loes.specs.Limits.{max_width, max_edges, count_bytes, block_bits, sub_block_bits, block_entry, sub_block_entry}
use Rattle.loes.specs.Bytes.{Bytes, started, number_at, bit_at, bits_in}
use Rattle.loes.specs.Entry.{Entry, edges_of, edge_count, Valid}
use Rattle.loes.specs.Encode.{block_ones, sub_block_ones, level_end, encode}
use Rattle.loes.specs.Read.{body_at, start2, width_in, edge_count_in, start4, start5, start6, end_of, level_at, block_at, sub_block_at, edges_in, entry_along, entry_in}
use Rattle.loes.specs.Held.{entry_held, Holds}
use Rattle.loes.proofs.Lent.{end_most}
use Rattle.loes.proofs.Bytes.{get_d_tabulate}
use Rattle.loes.proofs.Reading.{reads_exactly, encode_length, edges_read}
use Rattle.loes.proofs.Seven.{Agrees, encode_agrees}
use Rattle.loes.proofs.Bits.{length_bits_in}
use Rattle.encoding.specs.declared.Encoding.{Encoding}
use Rattle.encoding.specs.Opened.{Opens, Placed, FieldsFit, Counted, edges_at}

-- ---- Where the fields lie
-- an encoding of at most so many bytes
pub placed_self : (m n b : ℕ) (e : Encoding) → Placed m n b e → Placed e.width e.count e.bits e
placed_self m n b e p =
    record {
      width = refl;
      count = refl;
      bits = refl;
      edges = rw p.width p.edges;
      blocks = rw (p.width, p.bits) p.blocks;
      sub_blocks = rw (p.width, p.bits) p.sub_blocks;
    }

-- what the code reads are the numbers of the fields
pub placed_by : (l : Bytes) {m n b : ℕ} {e : Encoding} → m ≡ width_in l → b ≡ edge_count_in l → n ≡ number_at count_bytes l (body_at start2) → Placed m n b e
    → Placed (width_in l) (number_at count_bytes l (body_at start2)) (edge_count_in l) e
placed_by l h k q p = rw (← h, ← k, ← q) p

pub placed_room : (l : Bytes) (m n b : ℕ) (e : Encoding) → m ≤ max_width → b ≤ max_edges → Placed m n b e → length l ≡ end_of m b → FieldsFit l e
unfolding end_of start6 start5 start4
placed_room l m n b e h k p q =
    record {
      narrow = omega (arith, p.width);
      few = omega (arith, p.bits);
      bytes = omega (arith, end_most m b h k);
      levels = omega (arith, p.width);
      before = omega (arith, p.edges);
      edges = rw (p.edges, p.bits) (omega arith);
      blocks = rw (p.blocks, p.bits) (omega arith);
      sub_blocks = rw (p.sub_blocks, p.bits) (omega arith);
    }

pub started_lt : (size n j : ℕ) → 0 < size → j < started size n → size * j < n
unfolding started
started_lt size n j p h =
    let a : suc j * size ≤ n + (size - 1) = (le-div_iff_mul-le p).0 h in
    omega (arith, a, mul_comm size j, suc-mul j size)

pub lt_started : (size n j : ℕ) → 0 < size → size * j < n → j < started size n
unfolding started
lt_started size n j p h = (le-div_iff_mul-le p).1 (omega (arith, mul_comm size j, suc-mul j size))

-- the byte, the block entry and the sub-block entry of an offset lie in the bytes
pub room_at : (l : Bytes) (e : Encoding) (o : ℕ) → FieldsFit l e → o < e.bits
    → (e.edges + o / 8 < length l) × (e.blocks + block_entry * (o / block_bits) + block_entry ≤ length l) × (e.sub_blocks + sub_block_entry * (o / sub_block_bits) + sub_block_entry ≤ length l)
unfolding started
room_at l e o r h = (omega (arith, r.edges), omega (arith, r.blocks), omega (arith, r.sub_blocks))

pub length_edges_at : (l : Bytes) (e : Encoding) → length (edges_at l e) ≡ e.bits
unfolding edges_at
length_edges_at l e = length_bits_in (drop e.edges l) e.bits

-- where the numbers agree fields 5 and 6 count
pub counted_by : (l : Bytes) (x : Entry) (n : ℕ) (e : Encoding) → Placed x.width n (edge_count x) e → edges_at l e ≡ edges_of x → Agrees l x → Counted l e
counted_by l x n e p q a =
    record {
      blocks = λ j h.
          ap (λ i. block_at l i j) p.blocks ∙ a.blocks j (lt_started block_bits (edge_count x) j (omega arith) (rw p.bits at h))
          ∙ ap (λ z. block_ones z j) (sym q);
      sub_blocks = λ j h.
          ap (λ i. sub_block_at l i j) p.sub_blocks ∙ a.sub_blocks j (lt_started sub_block_bits (edge_count x) j (omega arith) (rw p.bits at h))
          ∙ ap (λ z. sub_block_ones z j) (sym q);
    }

module _ (l : Bytes) (e : Encoding) (o : Opens l e) where
  pub opens_valid : Valid (entry_in l)
  opens_valid = ((reads_exactly l (entry_in l)).0 o.reads).0

  pub opens_encode : l ≡ encode (entry_in l)
  opens_encode = ((reads_exactly l (entry_in l)).0 o.reads).1

  pub opens_placed : Placed (entry_in l).width e.count (edge_count (entry_in l)) e
  opens_placed = record { width = o.width; count = refl; bits = o.bits; edges = o.edges; blocks = o.blocks; sub_blocks = o.sub_blocks }

  pub opens_room : FieldsFit l e
  opens_room =
      placed_room l (entry_in l).width e.count (edge_count (entry_in l)) e opens_valid.narrow opens_valid.few opens_placed
      (ap length opens_encode ∙ encode_length (entry_in l))

  opens_agrees : Agrees l (entry_in l)
  opens_agrees = subst (λ x. Agrees x (entry_in l)) (sym opens_encode) (encode_agrees (entry_in l) opens_valid)

  -- field 3 has the ends of the levels
  pub opens_levels : (d : ℕ) → d < e.width → level_at l d ≡ level_end (entry_in l) d
  opens_levels d h = opens_agrees.levels d (omega (arith, h, o.width))

  pub opens_edges : edges_at l e ≡ edges_of (entry_in l)
  unfolding edges_at edges_in entry_in entry_along
  opens_edges =
      rw (o.edges, o.bits, ← opens_agrees.bits)
      (subst (λ x. edges_in x ≡ edges_of (entry_in l)) (sym opens_encode) (edges_read (entry_in l) opens_valid))

  pub opens_counted : Counted l e
  opens_counted = counted_by l (entry_in l) e.count e opens_placed opens_edges opens_agrees

  pub opens_held : entry_held e.width e.bits (drop e.edges l) ≡ entry_in l
  unfolding entry_held entry_in edges_in entry_along
  opens_held = rw (o.width, o.edges, o.bits, ← opens_agrees.bits)

  pub opens_holds : Holds e.width e.bits (drop e.edges l)
  opens_holds =
      record {
        positive = rw o.width opens_valid.positive;
        narrow = opens_room.narrow;
        few = opens_room.few;
        room = rw (length-drop e.edges l) (unfold started in omega (arith, opens_room.edges));
        same = rw opens_held (sym (unfold edges_at in opens_edges));
      }

  -- the edge at an offset
  pub opens_edge : (i : ℕ) → i < e.bits → bit_at (drop e.edges l) i ≡ get_or (edges_of (entry_in l)) i false
  unfolding edges_at bits_in
  opens_edge i h = sym (get_d_tabulate (bit_at (drop e.edges l)) e.bits i false h) ∙ ap (λ x. get_or x i false) opens_edges
