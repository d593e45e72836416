use mathlib.Core.Path.{◌≡◌, ◌∙◌}
use Rattle.std.proofs.Common.{arith}
use Rattle.loes.specs.Numbers.{number_of}
use Rattle.printing.specs.Text.{refused_line}
use Rattle.printing.proofs.Putting.{puts_then}
use Rattle.printing.proofs.Lines.{length_refused}
use Rattle.printing.proofs.put_refused.Goals as goal

pub put_named-end-requires : goal.put_named-end-requires
put_named-end-requires c = rw (c.from.ensures, c.number.ensures) (omega (arith, length_refused (number_of c.args.refusal)))

pub put-requires : goal.put-requires
put-requires c =
    let n : c.from.result ≡ number_of c.args.refusal = c.from.ensures ∙ c.number.ensures in
    omega (arith, length_refused (number_of c.args.refusal), (rw n at c.put_named-end.ensures).ends)

pub returns : goal.returns
unfolding refused_line
returns c =
    let n : c.from.result ≡ number_of c.args.refusal = c.from.ensures ∙ c.number.ensures in
    puts_then (rw n at c.put_named-end.ensures) c.put.ensures
