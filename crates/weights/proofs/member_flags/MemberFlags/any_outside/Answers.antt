use mathlib.Core.Path.{refl, sym, ap₂, ◌∙◌}
use mathlib.Core.Bool.{◌||◌}
use native.Mathlib.Omega.{arith}
use mir.Syntax.{w32}
use mir.Val.{SFits}
use borrow.Author.Rules.{rules}
use native.Mathlib.Numerals.{add-one}
use Rattle.loes.specs.Bytes.{tabulate}
use Rattle.loes.specs.Keys.{any_of}
use Rattle.records.specs.Records.{flags_from, first_count, second_count}
use Rattle.weights.specs.Lists.{over_at, any_below}
use Rattle.weights.proofs.Flags.{first_next, second_next, first_within, second_within, over_is, below_more}
use Rattle.weights.proofs.Ranges.{sum_told, told_none}
use Rattle.weights.proofs.member_flags.MemberFlags.any_outside.Goals as goal

pub loop-i-init : goal.loop-i-init
unfolding flags_from tabulate first_count second_count any_below any_of
loop-i-init c = (refl, refl, refl)

pub overflow_add-ia : goal.overflow_add-ia
overflow_add-ia c = record { fits = omega (arith, c.loop-i.invariant.0, c.from-ia.ensures, first_within c.args.self.queue.now c.args.self.first.0 c.loop-i.i) }

pub overflow_add-ib : goal.overflow_add-ib
overflow_add-ib c = record { fits = omega (arith, c.loop-i.invariant.1, c.from-ib.ensures, c.at-f.ensures.low, second_within c.args.self.queue.now c.args.self.first.0 c.loop-i.i) }

pub loop-i-preserved : goal.loop-i-preserved
loop-i-preserved c =
    let x : SFits w32 c.weight_if-x.result = search rules in
    let y : SFits w32 c.weight_if-y.result = search rules in
    rw (add-one c.loop-i.i) (
      omega (arith, c.loop-i.invariant.0, c.from-ia.ensures, first_next c.at-f.ensures),
      omega (arith, c.loop-i.invariant.1, c.from-ib.ensures, second_next c.at-f.ensures),
      ap₂ ◌||◌ c.loop-i.invariant.2 (told_none _ c.checked_add.result c.is_none-over.result (sum_told _ _ _ x y c.checked_add.ensures) c.is_none-over.ensures ∙ over_is c.at-f.ensures c.args.wa.now c.args.wb.now _ _ _ _ c.loop-i.invariant.0 c.loop-i.invariant.1 c.weight_if-x.ensures c.weight_if-y.ensures x y)
          ∙ sym (below_more (over_at c.args.self.queue.now c.args.self.first.0 c.args.wa.now c.args.wb.now) c.loop-i.i),
    )
