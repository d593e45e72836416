use Rattle.std.proofs.Common.{◌≡◌, ◌+◌, ◌*◌, ◌-◌, arith, ap}
use Rattle.loes.specs.Bytes.{bits_in}
use Rattle.loes.specs.Edges.{ones}
use Rattle.bits.proofs.Counts.{ones_more, ones_bits_le}
use Rattle.build.proofs.seen.Seen.count_to.Goals as goal

pub overflow_add-result : goal.overflow_add-result
overflow_add-result c =
    let w = c.by_words-words.result in
    omega (arith, w.counted, ones_bits_le w.edges.now (8 * w.bytes))

pub invariant_of-result-clause-counted : goal.invariant_of-result-clause-counted
invariant_of-result-clause-counted c =
    let w = c.by_words-words.result in
    let l = c.args.self.edges.now in
    let z : 8 * w.bytes + 8 * (c.args.upto - w.bytes) ≡ 8 * c.args.upto = omega arith in
    let same : ones (bits_in w.edges.now (8 * w.bytes)) ≡ ones (bits_in l (8 * w.bytes)) = ap (λ x. ones (bits_in x (8 * w.bytes))) c.by_words-words.ensures.0 in
    omega (arith, w.counted, same, ap (λ n. ones (bits_in l n)) z, ones_more l w.bytes (8 * (c.args.upto - w.bytes)))
