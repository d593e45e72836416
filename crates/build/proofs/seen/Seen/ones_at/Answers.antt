use Rattle.std.proofs.Common.{◌≡◌, ◌*◌, ◌/◌, ◌%◌, arith, ap}
use Rattle.loes.specs.Bytes.{bits_in}
use Rattle.loes.specs.Edges.{ones}
use Rattle.bits.proofs.Counts.{ones_at, ones_bits_le}
use Rattle.build.proofs.seen.Seen.ones_at.Goals as goal

pub overflow_add-result : goal.overflow_add-result
overflow_add-result c = omega (arith, ones_bits_le c.args.self.edges.now (8 * c.args.self.bytes))

pub returns : goal.returns
returns c =
    let l = c.args.self.edges.now in
    let o = c.args.o.0 in
    let z : 8 * c.args.self.bytes ≡ 8 * (o / 8) = omega arith in
    omega (arith, ap (λ n. ones (bits_in l n)) z, ones_at l (o / 8) (o % 8) o (omega arith))
