use Rattle.std.proofs.Common.{◌≡◌, ℕ, ◌+◌, ◌-◌, ◌*◌, ◌/◌, ◌%◌, ◌<◌, ◌≤◌, Bool, List, [], length, drop, take, length-take, length-drop, rules, refl, sym, ap, ◌∙◌, arith}
use native.Mathlib.Decide.{dec_le}
use borrow.Rule.Slice.PartMut.{put_mid}
use Rattle.loes.specs.Limits.{max_edges, block_bits, sub_block_bits}
use Rattle.loes.specs.Bytes.{Bytes, started, big_endian, big_endians, bits_in, front}
use Rattle.loes.specs.Edges.{ones, rank}
use Rattle.bits.proofs.Counts.{ones_more}
use Rattle.loes.specs.Encode.{block_ones, sub_block_ones}
use Rattle.encoding.proofs.Index.{sub_block_start}
use Rattle.build.specs.declared.seen.Seen.{Seen}
use Rattle.build.proofs.Front.{numbers_more, numbers_again}
use Rattle.build.proofs.Shape.{rank_value, first_sub}
use Rattle.build.proofs.put_counts.Goals as goal

-- sub-block j is one of them: its bytes, its start and its block
there : (b j : ℕ) → b ≤ max_edges → j < started sub_block_bits b → (64 * j ≤ started 8 b) × (sub_block_bits * j < b) × (j / 128 < started block_bits b)
unfolding started
there b j h q = (omega arith, omega arith, omega arith)

-- what is counted so far, and the base: the set bits before the sub-block, and before its block
counts : (l x : Bytes) (b j bytes n base old : ℕ) → x ≡ l → n ≡ ones (bits_in x (8 * bytes)) → bytes ≡ 64 * j → sub_block_bits * j < b
    → (j % 128 ≡ 0 → base ≡ n) × ((j % 128 ≡ 0 → ⊥) → base ≡ old) → ((j % 128 ≡ 0 → ⊥) → old ≡ block_ones (bits_in l b) (j / 128))
    → (n ≡ rank (bits_in l b) (512 * j)) × (base ≡ block_ones (bits_in l b) (j / 128))
counts l x b j bytes n base old same q at h given known =
    let e : List Bool = bits_in l b in
    let r : n ≡ rank e (512 * j) = q ∙ ap (λ y. ones (bits_in y (8 * bytes))) same ∙ rank_value l b j bytes at (omega arith) in (
      r,
      elim (dec_le (j % 128) 0) [
        | yes z ↦ let y : j % 128 ≡ 0 = omega arith in given.0 y ∙ r ∙ first_sub e j y
        | no z ↦ let y : j % 128 ≡ 0 → ⊥ = λ w. absurd (omega (arith, w)) in given.1 y ∙ known y
      ],
    )

-- counting on takes nothing away, so a base that is the old one, or is set to no more than what is counted, is no more than that
base_low : (l : Bytes) (s k : Seen) (j set old r : ℕ) → s.edges.now ≡ l → k.edges.now ≡ l → s.bytes ≤ k.bytes → (j % 128 ≡ 0 → r ≡ set) × ((j % 128 ≡ 0 → ⊥) → r ≡ old)
    → set ≤ k.ones → old ≤ s.ones → r ≤ k.ones
base_low l s k j set old r hs hk on given last low =
    let z : 8 * s.bytes + 8 * (k.bytes - s.bytes) ≡ 8 * k.bytes = omega arith in
    let more : ones (bits_in l (8 * k.bytes)) ≡ ones (bits_in l (8 * s.bytes)) + ones (bits_in (drop s.bytes l) (8 * (k.bytes - s.bytes))) = rw z at (ones_more l s.bytes (8 * (k.bytes - s.bytes))) in
    let before : s.ones ≡ ones (bits_in l (8 * s.bytes)) = s.counted ∙ ap (λ t. ones (bits_in t (8 * s.bytes))) hs in
    let now : k.ones ≡ ones (bits_in l (8 * k.bytes)) = k.counted ∙ ap (λ t. ones (bits_in t (8 * k.bytes))) hk in
    elim (dec_le (j % 128) 0) [
      | yes z ↦ omega (arith, given.0 (omega arith), last)
      | no z ↦ omega (arith, given.1 (λ w. absurd (omega (arith, w))), low, before, now, more)
    ]

next_block : (j : ℕ) → ((j + 1) % 128 ≡ 0 → ⊥) → (j + 1) / 128 ≡ j / 128
next_block j z = elim (dec_le ((j + 1) % 128) 0) [ yes y ↦ absurd (z (omega arith)) | no y ↦ omega arith ]

-- one more block's count, or the same again
blocks_more : (f : ℕ → ℕ) (j x : ℕ) (xs zs ys : Bytes) → let n : ℕ = 8 * (j / 128) in
    x ≡ f (j / 128) → n + 8 ≤ length xs → length zs ≡ length xs → zs ≡ front (big_endians 8 f ((j + 127) / 128)) xs → ys ≡ front (big_endian 8 x) (take (length zs - n) (drop n zs))
    → put_mid n (length zs - n) zs ys ≡ front (big_endians 8 f ((j + 1 + 127) / 128)) xs
blocks_more f j x xs zs ys v room long done e =
    let k = j / 128 in
    let after : (j + 1 + 127) / 128 ≡ k + 1 = omega arith in
    elim (dec_le (j % 128) 0) [
      | yes z ↦ let before : (j + 127) / 128 ≡ k = omega arith in rw after (numbers_more [] xs zs ys 8 f k (8 * k) (omega arith) (rw before at done) room x v e)
      | no z ↦ let before : (j + 127) / 128 ≡ k + 1 = omega arith in
          let again : zs ≡ front (big_endians 8 f (k + 1)) xs = rw before at done in
          rw after (numbers_again xs zs ys 8 f k (8 * k) refl (omega arith) again (e ∙ ap (λ y. front (big_endian 8 y) (take (length zs - 8 * k) (drop (8 * k) zs))) v) ∙ again)
    ]

pub none-seen-requires : goal.none-seen-requires
unfolding started
none-seen-requires c = omega arith

pub loop-j-init : goal.loop-j-init
unfolding front big_endians
loop-j-init c = record { same = c.none-seen.ensures.0; near = omega arith; low = omega arith; base = λ z. absurd (z refl); of_blocks = refl; of_sub_blocks = refl }

pub count_to-seen-requires : goal.count_to-seen-requires
count_to-seen-requires c =
    let h = there c.args.b c.loop-j.j (omega arith) (omega arith) in
    (omega arith, omega (arith, ap length c.loop-j.invariant.same))

pub slice_bounds-put-count : goal.slice_bounds-put-count
slice_bounds-put-count c =
    let h = there c.args.b c.loop-j.j (omega arith) (omega arith) in omega arith

pub slice_bounds-put-start : goal.slice_bounds-put-start
slice_bounds-put-start c =
    let h = there c.args.b c.loop-j.j (omega arith) (omega arith) in
    let room : 8 * (c.loop-j.j / 128) ≤ length c.loop-j.blocks = omega arith in search rules

pub put-requires : goal.put-requires
put-requires c =
    let h = there c.args.b c.loop-j.j (omega arith) (omega arith) in
    (omega arith, simp (length-take, length-drop) (omega arith))

pub overflow_sub-seen : goal.overflow_sub-seen
overflow_sub-seen c =
    let k = c.count_to-seen in
    base_low c.args.edges.now c.loop-j.seen k.result c.loop-j.j _ c.loop-j.base c.block_base-base.result c.loop-j.invariant.same (k.ensures.0 ∙ c.loop-j.invariant.same) (omega (arith, k.ensures.1, c.loop-j.invariant.near)) c.block_base-base.ensures (omega arith) c.loop-j.invariant.low

pub loop-j-preserved : goal.loop-j-preserved
loop-j-preserved c =
    let j = c.loop-j.j in
    let h = there c.args.b j (omega arith) (omega arith) in
    let e : List Bool = bits_in c.args.edges.now c.args.b in
    let k = c.count_to-seen in
    let base = c.block_base-base in
    let same = k.ensures.0 ∙ c.loop-j.invariant.same in
    let q = counts c.args.edges.now k.result.edges.now c.args.b j k.result.bytes k.result.ones base.result c.loop-j.base same k.result.counted k.ensures.1 h.1 base.ensures c.loop-j.invariant.base in
    let difference : k.result.ones - base.result ≡ sub_block_ones e j = omega (arith, sub_block_start e j) in
    record {
      same = same;
      near = omega arith;
      low = base_low c.args.edges.now c.loop-j.seen k.result j _ c.loop-j.base base.result c.loop-j.invariant.same same (omega (arith, k.ensures.1, c.loop-j.invariant.near)) base.ensures (omega arith) c.loop-j.invariant.low;
      base = λ z. q.1 ∙ ap (block_ones e) (sym (next_block j z));
      of_blocks = blocks_more (block_ones e) j base.result c.args.blocks.now c.loop-j.blocks c.put.new.out q.1 (omega arith) (omega arith) c.loop-j.invariant.of_blocks c.put.ensures;
      of_sub_blocks = numbers_more [] c.args.sub_blocks.now c.loop-j.sub_blocks c.put-in-loop-j.new.out 2 (sub_block_ones e) j (2 * j) (omega arith) c.loop-j.invariant.of_sub_blocks (omega arith) (k.result.ones - base.result) difference c.put-in-loop-j.ensures;
    }

pub returns-clause-of_blocks : goal.returns-clause-of_blocks
unfolding started
returns-clause-of_blocks c = let z : (c.loop-j.j + 127) / 128 ≡ started block_bits c.args.b = omega arith in rw z at c.loop-j.invariant.of_blocks
