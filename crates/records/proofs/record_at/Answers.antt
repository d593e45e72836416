use mathlib.Core.Path.{sym, ap, ◌∙◌}
use Rattle.records.specs.Records.{record_of_code}
use Rattle.records.proofs.Codes.{code_at}
use Rattle.records.proofs.record_at.Goals as goal

pub returns : goal.returns
returns c = (ap record_of_code c.record_in.ensures.0 ∙ sym (code_at c.args.l.now c.args.i.0), c.record_in.ensures.1)
