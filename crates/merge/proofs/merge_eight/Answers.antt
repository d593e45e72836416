use native.Mathlib.Omega.{arith}
use Rattle.merge.proofs.Spreading.{eight_ok}
use Rattle.merge.proofs.merge_eight.Goals as goal

pub returns : goal.returns
returns c = let a = c.parts_at-f.ensures in
    let b = c.parts_at-g.ensures in
    eight_ok c.args.c c.args.d c.args.x c.args.y c.parts_at-f.result.firsts c.parts_at-f.result.seconds c.parts_at-f.result.first c.parts_at-f.result.second
    c.parts_at-g.result.firsts c.parts_at-g.result.seconds c.parts_at-g.result.first c.parts_at-g.result.second
    c.four_in.result c.four_in-2.result c.four_in-3.result c.four_in-4.result c.spread_at-x1.result c.spread_at-y1.result c.spread_at-x2.result c.spread_at-y2.result
    c.push_four-h.result.records c.push_four-h.result.bits c.push_four-k.result.records c.push_four-k.result.bits c.followed_by.result.records c.followed_by.result.bits
    a.firsts_value.0 a.seconds_value.0 a.first_value a.second_value b.firsts_value.0 b.seconds_value.0 b.first_value b.second_value
    c.four_in.ensures.0 c.four_in-2.ensures.0 c.four_in-3.ensures.0 c.four_in-4.ensures.0
    c.spread_at-x1.ensures c.spread_at-y1.ensures c.spread_at-x2.ensures c.spread_at-y2.ensures c.push_four-h.ensures.0 c.push_four-k.ensures.0 c.followed_by.ensures.records
    (c.followed_by.result.fits, omega (arith, c.followed_by.ensures.bits, c.push_four-h.ensures.1, c.push_four-k.ensures.1), c.followed_by.result.whole)
