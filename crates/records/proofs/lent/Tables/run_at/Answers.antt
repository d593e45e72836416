use Rattle.records.proofs.Lookups.{run_told}
use Rattle.records.proofs.lent.Tables.run_at.Goals as goal

pub run_of-requires : goal.run_of-requires
run_of-requires c =
    let told = run_told c.args.self.run c.args.x c.args.y c.requires.0 c.requires.1 in
    (told.1.0, told.1.2)

pub returns : goal.returns
returns c =
    let told = run_told c.args.self.run c.args.x c.args.y c.requires.0 c.requires.1 in
    rw (c.run_of.ensures.0, c.run_of.ensures.1) (told.0, told.1.1)
