use Prim.Native.Nat.{◌<◌}
use mathlib.Core.Path.{sym, ◌∙◌}
use native.Mathlib.Omega.{arith}
use Rattle.loes.specs.Read.{entry_in}
use Rattle.encoding.proofs.Opened.{opens_valid}
use Rattle.query.proofs.Levels.{way_none, way_first, way_le, way_lt, way_next}
use Rattle.query.proofs.descend.Goals as goal

pub returns-then-o-eq0 : goal.returns-then-o-eq0
returns-then-o-eq0 c = let o = c.args.o.opens in
    way_none _ (opens_valid _ _ o) _ _ (omega (arith, c.requires.1, o.width)) (sym o.bits ∙ c.if-o-eq0.true)

pub loop-d-init : goal.loop-d-init
loop-d-init c = way_first _ (opens_valid _ _ c.args.o.opens) _ (omega (arith, c.if-o-eq0.false, c.args.o.opens.bits))

pub step_down-at-requires : goal.step_down-at-requires
step_down-at-requires c = let t : c.loop-d.d < (entry_in c.args.o.bytes.now).width = omega (arith, c.loop-d-test.true, c.args.o.opens.width, c.requires.1) in
    let v = opens_valid _ _ c.args.o.opens in
    let b = c.args.o.opens.bits in
    let y = way_le _ v _ c.loop-d.invariant t c.bit_at.result in
    (omega (arith, y, b), λ f. let z = way_lt _ v _ c.loop-d.invariant t c.bit_at.result f in omega (arith, z, b))

pub loop-d-preserved : goal.loop-d-preserved
loop-d-preserved c = let w = c.args.o.opens.width in
    let t = c.loop-d-test.true in
    (way_next _ (opens_valid _ _ c.args.o.opens) _ c.loop-d.invariant (omega (arith, t, w, c.requires.1)) (omega (arith, c.if-o-eq0.false, c.args.o.opens.bits)) _ c.bit_at.ensures _ _ c.step_down-at.ensures.0 c.step_down-at.ensures.1)
