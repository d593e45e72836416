use mathlib.Core.Path.{◌≡◌}
use lib.ListN.{length}
use Rattle.pack.proofs.Plans.{whole, unmarked, filled}
use lib.ListN.{replicate}
use Rattle.pack.proofs.fill.Goals as goal

pub of-requires : goal.of-requires
of-requires c = let b = whole c.args.m c.args.batch.now c.args.levels.now c.args.edges.now c.requires in (b.batch.positive, b.batch.narrow, b.even)

pub mark_all-requires : goal.mark_all-requires
mark_all-requires c =
    let of = c.of.ensures in
    let clear : c.fill.new.self ≡ replicate (length c.args.edges.now) 0 = c.fill.ensures.after (λ y e. e) in
    unmarked c.args.m c.args.batch.now c.args.levels.now c.args.edges.now c.requires c.of.result of.0 of.1 of.2 c.fill.new.self clear

pub returns : goal.returns
returns c =
    let of = c.of.ensures in
    filled c.args.m c.args.batch.now c.args.levels.now c.args.edges.now c.requires c.of.result of.0 of.1 of.2 c.mark_all.new.edges c.mark_all.ensures
