use native.Mathlib.Omega.{arith}
use Rattle.records.proofs.Lookups.{edged_told}
use Rattle.records.proofs.edged.EdgedTable.edged_at.Goals as goal

pub run_of-requires : goal.run_of-requires
run_of-requires c =
    let told = edged_told c.args.self.edged c.args.x (omega arith) in
    (told.1.0, told.1.2)

pub returns : goal.returns
returns c =
    let told = edged_told c.args.self.edged c.args.x (omega arith) in
    rw (c.run_of.ensures.0, c.run_of.ensures.1) (told.0, told.1.1)
