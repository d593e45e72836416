use native.Mathlib.Omega.{arith}
use Rattle.pack.proofs.Levels.{starts_few, gap_apart, none_marked}
use Rattle.pack.proofs.Places.{few_keys}
use Rattle.pack.proofs.mark_all.Goals as goal

pub mark_keys-requires-clause-edges_value : goal.mark_keys-requires-clause-edges_value
mark_keys-requires-clause-edges_value c = none_marked c.args.batch c.args.cursors.now c.requires.keys c.args.edges.now c.requires.clear

pub apart_from-top-requires : goal.apart_from-top-requires
apart_from-top-requires c =
    let b = c.args.batch in
    (c.requires.keys.long, starts_few b c.args.cursors.now c.requires.keys, omega (arith, few_keys b.width b.size b.count b.bytes.now b.whole))

pub mark_levels-requires : goal.mark_levels-requires
mark_levels-requires c = (c.requires, gap_apart c.args.batch c.args.cursors.now c.requires.keys c.apart_from-top.result c.apart_from-top.ensures)

pub mark_keys-requires-2-clause-markable : goal.mark_keys-requires-2-clause-markable
mark_keys-requires-2-clause-markable c = (c.requires.keys, gap_apart c.args.batch c.args.cursors.now c.requires.keys c.apart_from-top.result c.apart_from-top.ensures)
