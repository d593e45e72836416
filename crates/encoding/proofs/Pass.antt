-- The pass over the whole edge bytes.
use mathlib.Core.Path.{◌≡◌, refl, sym, ap, ap₂, ◌∙◌}
use Prim.Native.Nat.{ℕ, suc, ◌+◌, ◌-◌, ◌*◌, ◌/◌, ◌%◌, ◌≤◌, ◌<◌, min}
use mathlib.Core.Bool.{Bool, true, false, ◌&&◌, not, false≢true}
use mathlib.Core.List.{List}
use native.Mathlib.Omega.{arith}
use native.Mathlib.Decide.{dec_le}
use lib.ListN.{length, drop}
use lib.Seq.{drop-drop}
use Rattle.loes.specs.Limits.{max_edges, sub_block_bits, block_entry, sub_block_entry, sub_blocks}
use Rattle.loes.specs.Bytes.{Bytes, tabulate, started, bits_in}
use Rattle.loes.specs.Edges.{ones, rank}
use Rattle.loes.specs.Encode.{block_ones, sub_block_ones}
use Rattle.loes.specs.Read.{block_at, sub_block_at}
use Rattle.loes.proofs.Tests.{both, not_false}
use Rattle.bits.specs.Tables.{none_empty}
use Rattle.bits.proofs.Counts.{rank_bits, ones_more, ones_bits_le}
use Rattle.bits.proofs.Records.{full_more}
use Rattle.encoding.specs.declared.Encoding.{Encoding}
use Rattle.encoding.specs.Opened.{edges_at, FieldsFit, Counted}
use Rattle.encoding.specs.Agree.{Decides, EntriesAt, BlockBase, WholeRight}
use Rattle.encoding.proofs.Opened.{room_at}
use Rattle.encoding.proofs.Index.{sub_block_start}

-- the bytes before sub-block j, as far as they are whole
abbrev pub done : Encoding → ℕ → ℕ
done e j = min (64 * j) (e.bits / 8)

-- what is found before sub-block j
pub record Going (l : Bytes) (e : Encoding) (j n : ℕ) : Type 0 where
  pub count : n ≡ ones (bits_in (drop e.edges l) (8 * done e j))
  pub full : none_empty (bits_in (drop e.edges l) (8 * done e j)) ≡ true
  pub blocks : (i : ℕ) → i < j → block_at l e.blocks (i / sub_blocks) ≡ block_ones (edges_at l e) (i / sub_blocks)
  pub sub_blocks : (i : ℕ) → i < j → sub_block_at l e.sub_blocks i ≡ sub_block_ones (edges_at l e) i

pub below_next : (P : ℕ → Type 0) (d : ℕ) → ((j : ℕ) → j < d → P j) → P d → (j : ℕ) → j < d + 1 → P j
below_next P d f p j h = elim (dec_le (suc j) d) [ yes l ↦ f j l | no l ↦ let z : d ≡ j = omega arith in rw z at p ]

pub sub_block_first : (x : List Bool) (j : ℕ) → j % sub_blocks ≡ 0 → sub_block_ones x j ≡ 0
unfolding sub_block_ones rank ones
sub_block_first x j h = rw h

module _ (l : Bytes) (e : Encoding) where
  pub going_start : Going l e 0 0
  going_start =
      let z : done e 0 ≡ 0 = omega arith in
      record {
        count = rw z (unfold bits_in tabulate ones in refl);
        full = rw z (unfold bits_in tabulate none_empty in refl);
        blocks = λ i h. absurd (omega arith);
        sub_blocks = λ i h. absurd (omega arith);
      }

  pub entries_room : (j : ℕ) → FieldsFit l e → sub_block_bits * j < e.bits
      → (e.blocks + block_entry * (j / sub_blocks) + block_entry ≤ length l) × (e.sub_blocks + sub_block_entry * j + sub_block_entry ≤ length l)
  entries_room j r h =
      let o = room_at l e (512 * j) r h in
      let zb : (512 * j) / 65536 ≡ j / sub_blocks = omega arith in
      let zs : (512 * j) / 512 ≡ j = omega arith in
      (rw zb at o.1, rw zs at o.2)

  -- the block's entry is read at its first sub-block, and stands for the others
  abbrev pub Later : ℕ → ℕ → Type 0
  Later j base = (j % sub_blocks ≡ 0 → ⊥) → block_at l e.blocks (j / sub_blocks) ≡ base

  pub based : (j base n b : ℕ) → base ≤ n → Later j base → (j % sub_blocks ≡ 0 → b ≡ n) × ((j % sub_blocks ≡ 0 → ⊥) → b ≡ base) → BlockBase l e j b n
  based j base n b h f q =
      record {
        below = elim (dec_le 1 (j % sub_blocks)) [ yes p ↦ omega (arith, q.1 (λ z. omega (arith, z, p))) | no p ↦ omega (arith, q.0 (omega arith)) ];
        first = q.0;
        later = λ z. f z ∙ sym (q.1 z);
      }

  pub later_next : (j b n : ℕ) → BlockBase l e j b n → EntriesAt l e j n → Later (j + 1) b
  later_next j b n d x z =
      let v : (j + 1) / 128 ≡ j / sub_blocks = elim (dec_le 1 ((j + 1) % 128)) [ yes p ↦ omega arith | no p ↦ absurd (z (omega arith)) ] in
      ap (λ i. block_at l e.blocks i) v
      ∙ elim (dec_le 1 (j % sub_blocks)) [ yes p ↦ d.later (λ w. omega (arith, w, p)) | no p ↦ let w : j % sub_blocks ≡ 0 = omega arith in x.1 w ∙ sym (d.first w) ]

  module _ (j n : ℕ) (g : Going l e j n) where
    pub count_le : n ≤ e.bits
    count_le = omega (arith, g.count, ones_bits_le (drop e.edges l) (8 * done e j))

    -- the set bits before sub-block j
    count_at : sub_block_bits * j < e.bits → block_ones (edges_at l e) (j / sub_blocks) + sub_block_ones (edges_at l e) j ≡ n
    unfolding edges_at
    count_at h =
        let y : Bytes = drop e.edges l in
        let z : 512 * j ≡ 8 * done e j = omega arith in
        sub_block_start (bits_in y e.bits) j ∙ rank_bits y e.bits (512 * j) (omega arith) ∙ ap (λ m. ones (bits_in y m)) z ∙ sym g.count

    pub entries_of : sub_block_bits * j < e.bits → Counted l e → EntriesAt l e j n
    entries_of h c =
        let x : List Bool = edges_at l e in
        let a = c.blocks (j / sub_blocks) (omega arith) in
        let t = count_at h in
        (ap₂ ◌+◌ a (c.sub_blocks j h) ∙ t, λ z. omega (arith, a, t, sub_block_first x j z))

    entries_are : sub_block_bits * j < e.bits → EntriesAt l e j n
        → (block_at l e.blocks (j / sub_blocks) ≡ block_ones (edges_at l e) (j / sub_blocks)) × (sub_block_at l e.sub_blocks j ≡ sub_block_ones (edges_at l e) j)
    entries_are h x =
        let t = count_at h in
        let a : block_at l e.blocks (j / sub_blocks) ≡ block_ones (edges_at l e) (j / sub_blocks) =
        elim (dec_le 1 (j % sub_blocks)) [
          | yes p ↦ let z : (j - 1) / 128 ≡ j / sub_blocks = omega arith in rw z at (g.blocks (j - 1) (omega arith))
          | no p ↦ let z : j % sub_blocks ≡ 0 = omega arith in omega (arith, x.1 z, t, sub_block_first (edges_at l e) j z)
        ] in
        (a, omega (arith, a, t, x.0))

    -- the bytes of sub-block j, as many as are whole
    module _ (size : ℕ) (h : sub_block_bits * j < e.bits) (u : size ≡ min 64 (e.bits / 8 - 64 * j)) where
      abbrev pub part_bits : List Bool
      part_bits = bits_in (drop (e.edges + 64 * j) l) (8 * size)

      part_here : part_bits ≡ bits_in (drop (64 * j) (drop e.edges l)) (8 * size)
      part_here = ap (λ y. bits_in y (8 * size)) (sym (drop-drop (64 * j) e.edges l))

      pub part_wrong : (none_empty part_bits ≡ true → ⊥) → WholeRight l e → ⊥
      part_wrong b w =
          let y : Bytes = drop e.edges l in
          let upto : ℕ = 64 * j + size in
          let z : 8 * (e.bits / 8) ≡ 8 * upto + 8 * (e.bits / 8 - upto) = omega (arith, u) in
          let v : 8 * upto ≡ 8 * (64 * j) + 8 * size = omega arith in
          let f : none_empty (bits_in y (8 * upto)) ≡ true = (both (none_empty (bits_in y (8 * upto))) (none_empty (bits_in (drop upto y) (8 * (e.bits / 8 - upto)))) (sym (ap (λ m. none_empty (bits_in y m)) z ∙ full_more y upto (8 * (e.bits / 8 - upto))) ∙ w.1)).0 in
          let s : none_empty (bits_in (drop (64 * j) y) (8 * size)) ≡ true =
          (both (none_empty (bits_in y (8 * (64 * j)))) (none_empty (bits_in (drop (64 * j) y) (8 * size))) (sym (ap (λ m. none_empty (bits_in y m)) v ∙ full_more y (64 * j) (8 * size)) ∙ f)).1 in
          b (ap none_empty part_here ∙ s)

      pub going_next : (k : ℕ) → (none_empty part_bits ≡ true) × (k ≡ ones part_bits) → EntriesAt l e j n → Going l e (j + 1) (n + k)
      going_next k t x =
          let y : Bytes = drop e.edges l in
          let d : done e j ≡ 64 * j = omega arith in
          let v : 8 * done e (j + 1) ≡ 8 * (64 * j) + 8 * size = omega (arith, u) in
          let c : n ≡ ones (bits_in y (8 * (64 * j))) = rw d at g.count in
          let f : none_empty (bits_in y (8 * (64 * j))) ≡ true = rw d at g.full in
          let r = entries_are h x in
          record {
            count = omega (arith, c, t.1, ap ones part_here, ap (λ m. ones (bits_in y m)) v, ones_more y (64 * j) (8 * size));
            full = ap (λ m. none_empty (bits_in y m)) v ∙ full_more y (64 * j) (8 * size) ∙ ap₂ ◌&&◌ f (ap none_empty (sym part_here) ∙ t.0);
            blocks = below_next (λ i. block_at l e.blocks (i / sub_blocks) ≡ block_ones (edges_at l e) (i / sub_blocks)) j g.blocks r.0;
            sub_blocks = below_next (λ i. sub_block_at l e.sub_blocks i ≡ sub_block_ones (edges_at l e) i) j g.sub_blocks r.1;
          }

    pub going_end : started sub_block_bits e.bits ≤ j → WholeRight l e × (n ≡ ones (bits_in (drop e.edges l) (8 * (e.bits / 8))))
    unfolding started
    going_end h =
        let z : done e j ≡ e.bits / 8 = omega arith in (
          (
            record {
              blocks = λ i q. let v : (128 * i) / 128 ≡ i = omega arith in rw v at (g.blocks (128 * i) (omega arith));
              sub_blocks = λ i q. g.sub_blocks i (omega arith);
            },
            rw z at g.full,
          ),
          rw z at g.count,
        )

-- sub-block j, of which so many bytes are whole, told wrong or added up
module _ (l : Bytes) (e : Encoding) (j n : ℕ) (g : Going l e j n) where
  pub entries_wrong : {r : Bool} → sub_block_bits * j < e.bits → Decides r (EntriesAt l e j n) → not r ≡ true → WholeRight l e → ⊥
  entries_wrong h t z w = false≢true (sym (ap not (t.1 (entries_of l e j n g h w.0))) ∙ z)

  pub entries_right : {r : Bool} → Decides r (EntriesAt l e j n) → not r ≡ false → EntriesAt l e j n
  entries_right {r} t z = t.0 (not_false r z)

  pub sum_few : (size k : ℕ) → size ≤ 64 → k ≡ ones (bits_in (drop (e.edges + 64 * j) l) (8 * size)) → e.bits ≤ max_edges → n + k ≤ max_edges + 512
  sum_few size k u p few = omega (arith, p, ones_bits_le (drop (e.edges + 64 * j) l) (8 * size), count_le l e j n g)
