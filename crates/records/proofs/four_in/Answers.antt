use native.Mathlib.Omega.{arith}
use Rattle.records.proofs.Numbers.{four_in_ok}
use Rattle.records.proofs.four_in.Goals as goal

pub returns : goal.returns
returns c = (four_in_ok c.args.x c.args.n c.requires, omega arith)
