use Rattle.std.proofs.Common.{arith, ◌≡◌, ◌+◌, ◌-◌, ◌*◌, ◌/◌, ◌%◌, ◌^◌, sym, ap, ◌∙◌, subst, drop}
use lib.Bits.{bit_and, bit_or}
use lib.Count
use Rattle.loes.specs.Bytes.{bits_in}
use Rattle.loes.specs.Edges.{ones}
use Rattle.bits.specs.Words.{mask}
use Rattle.bits.proofs.Counts.{ones_bits_le}
use Rattle.bits.proofs.Words.{small_from, word_ones_le, part_count, part_full, full_part, full_front}
use Rattle.encoding.proofs.SubBlock.{part_is}
use Rattle.encoding.proofs.part_ones.Goals as goal

pub returns-then-p-ne-RECORDS : goal.returns-then-p-ne-RECORDS
unfolding mask
returns-then-p-ne-RECORDS c =
    let size = c.args.upto - c.args.from in
    let whole : 8 * (size / 8) + size % 8 ≡ size = omega arith in
    λ e. c.if-p-ne-RECORDS.true (full_front _ (8 * (size / 8)) _ _ (size % 8) c.scan_words-p.ensures (rw whole e))

pub returns-then-x-k : goal.returns-then-x-k
unfolding mask
returns-then-x-k c =
    let a = c.args in
    let size = a.upto - a.from in
    let left = size % 8 in
    let small = small_from a.l.now a.from (λ i. (c.type_inv.l i).fits) in
    let whole : 8 * (size / 8) + left ≡ size = omega arith in
    λ e. c.if-x-k.true (subst (λ x. bit_and (mask 8) (bit_or x (x / 2)) ≡ mask 8 % (1 * 2 ^ (8 * left) % 2 ^ 64)) (sym (part_is a.l.now a.from a.upto c.requires.1 c.part_word-x.ensures))
    (full_part (drop a.from a.l.now) (8 * (size / 8)) _ _ left (omega arith) small c.scan_words-p.ensures (rw whole e)))

pub overflow_add-result : goal.overflow_add-result
overflow_add-result c =
    let a = c.args in
    let size = a.upto - a.from in
    let b = drop a.from a.l.now in
    let small = small_from a.l.now a.from (λ i. (c.type_inv.l i).fits) in
    omega
    (arith, ap Count.ones (part_is a.l.now a.from a.upto c.requires.1 c.part_word-x.ensures), word_ones_le (drop (8 * (size / 8)) b) (size % 8) (small_from b (8 * (size / 8)) small), c.scan_words-p.ensures.count, ones_bits_le b (8 * (8 * (size / 8))))

pub returns : goal.returns
unfolding mask
returns c =
    let a = c.args in
    let size = a.upto - a.from in
    let left = size % 8 in
    let passed = 8 * (size / 8) in
    let b = drop a.from a.l.now in
    let small = small_from a.l.now a.from (λ i. (c.type_inv.l i).fits) in
    let whole : passed + left ≡ size = omega arith in
    let r = c.scan_words-p.result in
    let last = part_is a.l.now a.from a.upto c.requires.1 c.part_word-x.ensures in
    let e = subst (λ x. bit_and (mask 8) (bit_or x (x / 2)) ≡ mask 8 % (1 * 2 ^ (8 * left) % 2 ^ 64)) last c.if-x-k.false in (
      rw whole at (part_full b passed r.full r.ones left (omega arith) small c.scan_words-p.ensures c.if-p-ne-RECORDS.false e),
      ap (λ x. r.ones + Count.ones x) last ∙ part_count b passed r.full r.ones left (omega arith) small c.scan_words-p.ensures ∙ ap (λ m. ones (bits_in b (8 * m))) whole,
    )
