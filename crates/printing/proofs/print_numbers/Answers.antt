use Rattle.std.proofs.Common.{◌<◌, ◌^◌, ◌∙◌, arith}
use Rattle.printing.proofs.Putting.{puts_front}
use Rattle.printing.proofs.Lines.{numbers_most}
use Rattle.printing.proofs.Paging.{first_line_lem}
use Rattle.printing.proofs.print_numbers.Goals as goal

pub put_numbers-n-requires : goal.put_numbers-n-requires
put_numbers-n-requires g c = let e = c.args.o.encoding in let m : e.width < 2 ^ 64 = omega arith in let n : e.count < 2 ^ 64 = omega arith in let b : e.bits < 2 ^ 64 = omega arith in omega (arith, numbers_most e.width e.count e.bits m n b)

pub write_numbers-requires : goal.write_numbers-requires
write_numbers-requires g c = puts_front c.put_numbers-n.ensures ∙ first_line_lem _ _ c.args.o.opens
