use native.Mathlib.Omega.{arith}
use Rattle.records.proofs.Codes.{masked}
use Rattle.records.proofs.with_record.Goals as goal

pub returns : goal.returns
returns c = masked c.args.old c.args.k c.args.z (omega arith) c.requires.0 c.requires.1
