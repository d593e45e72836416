use Rattle.std.proofs.Common.{arith}
use Rattle.loes.specs.Numbers.{number_of}
use Rattle.printing.proofs.Putting.{puts_front}
use Rattle.printing.proofs.Lines.{refused_most, refusal_small}
use Rattle.printing.proofs.print_refused.Goals as goal

pub put_refused-n-requires : goal.put_refused-n-requires
put_refused-n-requires g c = omega (arith, refused_most (number_of c.args.refusal) (refusal_small c.args.refusal))

pub write_refused-requires : goal.write_refused-requires
write_refused-requires g c = (c.requires, puts_front c.put_refused-n.ensures)
