use Rattle.std.proofs.Common.{◌≡◌, ℕ, ◌+◌, ◌*◌, arith, ap}
use lib.ListN.{drop}
use Rattle.loes.specs.Bytes.{bits_in}
use Rattle.loes.specs.Edges.{ones}
use Rattle.bits.proofs.Counts.{ones_bits_le, ones_more}
use Rattle.build.proofs.seen.Seen.by_words.Goals as goal

pub overflow_add-ones : goal.overflow_add-ones
overflow_add-ones c =
    let l = c.args.self.edges.now in
    let at : ℕ = c.args.self.bytes + 8 * c.loop-k.k in
    omega (arith, c.word_ones-ones.ensures, ones_bits_le (drop at l) 64, c.loop-k.invariant, ones_bits_le l (8 * at))

pub loop-k-preserved : goal.loop-k-preserved
loop-k-preserved c =
    let l = c.args.self.edges.now in
    let at : ℕ = c.args.self.bytes + 8 * c.loop-k.k in
    let z : 8 * (c.args.self.bytes + 8 * (c.loop-k.k + 1)) ≡ 8 * at + 64 = omega arith in
    omega (arith, c.word_ones-ones.ensures, c.loop-k.invariant, ap (λ n. ones (bits_in l n)) z, ones_more l at 64)
