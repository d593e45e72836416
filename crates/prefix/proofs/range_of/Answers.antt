use mathlib.Core.Path.{sym, ◌∙◌}
use native.Mathlib.Omega.{arith}
use Rattle.loes.specs.Prefixes.{records_before}
use Rattle.encoding.proofs.Opened.{opens_valid, opens_room}
use Rattle.prefix.proofs.Cuts.{carried_more, descended, cut_before, cut_behind, record_few, low_le, ranged_none, ranged_some, ranged_empty}
use Rattle.prefix.proofs.range_of.Goals as goal

pub returns-then-o-eq0 : goal.returns-then-o-eq0
returns-then-o-eq0 c =
    let o = c.args.o.opens in
    ranged_empty _ _ _ (opens_valid _ _ o) (omega (arith, c.requires.0, o.width)) (sym o.bits ∙ c.if-o-eq0.true)

pub carry_down-low-requires : goal.carry_down-low-requires
carry_down-low-requires c =
    let went = descended _ _ _ c.args.o.opens _ c.requires.0 (omega (arith, c.if-o-eq0.false)) _ _ c.descend-at.ensures in
    (went.some, c.requires.0, cut_before went)

pub overflow_sub-first : goal.overflow_sub-first
overflow_sub-first c =
    let went = descended _ _ _ c.args.o.opens _ c.requires.0 (omega (arith, c.if-o-eq0.false)) _ _ c.descend-at.ensures in
    low_le went _ c.carry_down-low.ensures

pub returns : goal.returns
returns c =
    let went = descended _ _ _ c.args.o.opens _ c.requires.0 (omega (arith, c.if-o-eq0.false)) _ _ c.descend-at.ensures in
    ranged_none went _ c.carry_down-low.ensures c.if-at.false

pub overflow_add-at : goal.overflow_add-at
overflow_add-at c =
    let went = descended _ _ _ c.args.o.opens _ c.requires.0 (omega (arith, c.if-o-eq0.false)) _ _ c.descend-at.ensures in
    omega (arith, record_few went, (opens_room _ _ c.args.o.opens).few)

pub carry_down-high-requires : goal.carry_down-high-requires
unfolding records_before
carry_down-high-requires c =
    let went = descended _ _ _ c.args.o.opens _ c.requires.0 (omega (arith, c.if-o-eq0.false)) _ _ c.descend-at.ensures in
    let z = cut_behind went c.if-at.true in
    (went.some, c.requires.0, (omega (arith, (cut_before went).0), omega (arith, z.1)))

pub overflow_sub-result : goal.overflow_sub-result
overflow_sub-result c = rw (c.carry_down-low.ensures, c.carry_down-high.ensures) (carried_more _ _ _ _ (omega arith))

pub returns-then-at : goal.returns-then-at
returns-then-at c =
    let went = descended _ _ _ c.args.o.opens _ c.requires.0 (omega (arith, c.if-o-eq0.false)) _ _ c.descend-at.ensures in
    ranged_some went _ c.carry_down-low.ensures _ c.carry_down-high.ensures c.if-at.true
