use mathlib.Core.Path.{refl, ◌∙◌}
use native.Mathlib.Omega.{arith}
use lib.IntN.{◌+ℤ◌}
use mir.Syntax.{w32}
use mir.Val.{SFits}
use borrow.Author.Rules.{rules}
use native.Mathlib.Numerals.{add-one}
use mir.Facts.{to_z-of_z}
use Rattle.loes.specs.Bytes.{tabulate}
use Rattle.records.specs.Records.{flags_from, first_count, second_count}
use Rattle.weights.specs.Lists.{sum_at, over_at}
use Rattle.weights.proofs.Flags.{first_next, second_next, first_within, second_within, sum_is, over_is, none_below, one_more}
use Rattle.weights.proofs.Ranges.{inside_fits}
use Rattle.weights.proofs.member_flags.MemberFlags.write_sums.Goals as goal

pub loop-i-init : goal.loop-i-init
unfolding flags_from tabulate first_count second_count
loop-i-init c = (refl, refl, refl)

pub overflow_add-list : goal.overflow_add-list
overflow_add-list c =
    let x : SFits w32 c.weight_if.result = search rules in
    let y : SFits w32 c.weight_if-in-loop-i.result = search rules in
    let inside : SFits w32 (c.weight_if.result +ℤ c.weight_if-in-loop-i.result) =
    inside_fits _ (over_is c.at-f.ensures c.args.wa.now c.args.wb.now _ _ _ _ c.loop-i.invariant.0 c.loop-i.invariant.1 c.weight_if.ensures c.weight_if-in-loop-i.ensures x y ∙ none_below (over_at c.args.self.queue.now c.args.self.first.0 c.args.wa.now c.args.wb.now) c.args.self.count c.loop-i.i c.requires.1 c.loop-i-test.true) in
    rw (to_z-of_z x, to_z-of_z y) inside

pub overflow_add-ia : goal.overflow_add-ia
overflow_add-ia c = record { fits = omega (arith, c.args.self.fit, c.loop-i.invariant.0, c.from-ia.ensures, first_within c.args.self.queue.now c.args.self.first.0 c.loop-i.i) }

pub overflow_add-ib : goal.overflow_add-ib
overflow_add-ib c = record { fits = omega (arith, c.args.self.fit, c.loop-i.invariant.1, c.from-ib.ensures, c.at-f.ensures.low, second_within c.args.self.queue.now c.args.self.first.0 c.loop-i.i) }

pub loop-i-preserved : goal.loop-i-preserved
loop-i-preserved c =
    let x : SFits w32 c.weight_if.result = search rules in
    let y : SFits w32 c.weight_if-in-loop-i.result = search rules in
    let inside : SFits w32 (c.weight_if.result +ℤ c.weight_if-in-loop-i.result) =
    inside_fits _ (over_is c.at-f.ensures c.args.wa.now c.args.wb.now _ _ _ _ c.loop-i.invariant.0 c.loop-i.invariant.1 c.weight_if.ensures c.weight_if-in-loop-i.ensures x y ∙ none_below (over_at c.args.self.queue.now c.args.self.first.0 c.args.wa.now c.args.wb.now) c.args.self.count c.loop-i.i c.requires.1 c.loop-i-test.true) in
    rw (add-one c.loop-i.i) (
      omega (arith, c.loop-i.invariant.0, c.from-ia.ensures, first_next c.at-f.ensures),
      omega (arith, c.loop-i.invariant.1, c.from-ib.ensures, second_next c.at-f.ensures),
      one_more (sum_at c.args.self.queue.now c.args.self.first.0 c.args.wa.now c.args.wb.now) c.loop-i.list c.loop-i.i _ (omega (arith, c.loop-i-test.true, c.loop-i.auto.list, c.requires.0)) c.loop-i.invariant.2
          (rw (to_z-of_z x, to_z-of_z y, to_z-of_z inside) (sum_is c.at-f.ensures c.args.wa.now c.args.wb.now _ _ _ _ c.loop-i.invariant.0 c.loop-i.invariant.1 c.weight_if.ensures c.weight_if-in-loop-i.ensures)),
    )
