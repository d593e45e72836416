use Rattle.std.proofs.Common.{arith, ◌≡◌, ◌-◌, ◌*◌, ◌/◌, ap, drop}
use Rattle.loes.specs.Bytes.{bits_in, tabulate}
use Rattle.loes.specs.Edges.{ones}
use Rattle.bits.proofs.Counts.{ones_bits_le}
use Rattle.encoding.proofs.SubBlock.{with_part, rest_few, with_rest, word_counted}
use Rattle.encoding.proofs.count_sub_block.Goals as goal

pub overflow_add-found-2 : goal.overflow_add-found-2
overflow_add-found-2 c = omega (arith, c.tally_part.ensures.1)

pub returns-then-last-lt8 : goal.returns-then-last-lt8
returns-then-last-lt8 c =
    let a = c.args in
    let z : (a.n - 1) / 8 - 0 ≡ (a.n - 1) / 8 = omega arith in
    omega (arith, c.tally_bytes.ensures.0, ap (λ n. ones (bits_in a.edges.now (8 * n))) z, with_part a.block a.sub_block a.edges.now a.n _ c.requires.2 c.tally_part.ensures.0)

pub overflow_cast-sum : goal.overflow_cast-sum
overflow_cast-sum c = omega (arith, rest_few c.args.edges.now ((c.args.n - 1) / 8) _ (λ i. (c.type_inv.edges i).fits) c.part_word-rest.ensures)

pub overflow_add-sum : goal.overflow_add-sum
overflow_add-sum c = omega (arith, c.tally_part.ensures.1, rest_few c.args.edges.now ((c.args.n - 1) / 8) _ (λ i. (c.type_inv.edges i).fits) c.part_word-rest.ensures)

pub loop-i-init : goal.loop-i-init
unfolding bits_in tabulate ones
loop-i-init c = omega arith

pub overflow_add-sum-in-loop-i : goal.overflow_add-sum-in-loop-i
overflow_add-sum-in-loop-i c =
    let a = c.args in
    omega
    (arith, c.loop-i.invariant, c.tally_part.ensures.1, rest_few a.edges.now ((a.n - 1) / 8) _ (λ i. (c.type_inv.edges i).fits) c.part_word-rest.ensures, ones_bits_le a.edges.now (64 * c.loop-i.i), c.word_ones-sum.ensures, ones_bits_le (drop (8 * c.loop-i.i) a.edges.now) 64)

pub loop-i-preserved : goal.loop-i-preserved
loop-i-preserved c = word_counted c.args.edges.now c.loop-i.i _ _ _ c.loop-i.invariant c.word_ones-sum.ensures

pub returns : goal.returns
returns c =
    let a = c.args in
    let z : c.loop-i.i ≡ (a.n - 1) / 8 / 8 = omega (arith, c.loop-i-test.false) in
    omega
    (arith, c.loop-i.invariant, ap (λ n. ones (bits_in a.edges.now (64 * n))) z, with_rest a.edges.now ((a.n - 1) / 8) _ (λ i. (c.type_inv.edges i).fits) c.part_word-rest.ensures, with_part a.block a.sub_block a.edges.now a.n _ c.requires.2 c.tally_part.ensures.0)
