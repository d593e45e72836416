use native.Mathlib.Omega.{arith}
use Rattle.records.specs.Numbers.{records_of}
use Rattle.restrict.proofs.Masking.{count_parts}
use Rattle.restrict.proofs.count_edges.Goals as goal

pub returns : goal.returns
returns c = let f = c.parts_at-h.ensures in
    (omega (arith, f.first_value.0, f.second_value.0, count_parts (records_of 4 c.args.x)), omega arith)
