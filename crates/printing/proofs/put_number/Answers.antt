use Rattle.std.proofs.Common.{◌∙◌, arith}
use Rattle.printing.proofs.Digits.{digits_decimal}
use Rattle.printing.proofs.put_number.Goals as goal

pub put_text-requires : goal.put_text-requires
put_text-requires c = rw (c.as_bytes.ensures.value ∙ c.format.ensures.text ∙ digits_decimal c.args.n (omega arith)) (omega arith)

pub returns : goal.returns
returns c = rw (c.as_bytes.ensures.value ∙ c.format.ensures.text ∙ digits_decimal c.args.n (omega arith)) at c.put_text.ensures
