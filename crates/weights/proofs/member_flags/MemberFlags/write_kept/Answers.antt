use mathlib.Core.Path.{◌≡◌, refl, sym, ap, ap₂, ◌∙◌}
use Prim.Native.Nat.{ℕ, suc, ◌+◌}
use native.Mathlib.Omega.{arith}
use native.Mathlib.Numerals.{add-one}
use lib.ListN.{length, take, get_or, set}
use lib.IntN.{ℤ}
use mir.Syntax.{w32}
use mir.Facts.{to_z-of_z}
use lib.Dec.{eqb}
use mir.Val.{SFits, to_z, of_z, bool_byte}
use borrow.Author.Rules.{rules}
use Rattle.loes.specs.Bytes.{tabulate}
use Rattle.records.specs.Records.{flags_from, first_count}
use Rattle.weights.specs.Weights.{no_weight}
use Rattle.weights.specs.Lists.{kept_to}
use Rattle.weights.proofs.Flags.{byte_bit, first_within, first_next, kept_next, kept_more}
use Rattle.weights.proofs.member_flags.MemberFlags.write_kept.Goals.{then-k-list, else-k-list}
use Rattle.weights.proofs.member_flags.MemberFlags.write_kept.Goals as goal

pub loop-i-init : goal.loop-i-init
unfolding kept_to flags_from tabulate first_count
loop-i-init c = (refl, refl, refl)

pub overflow_add-ia : goal.overflow_add-ia
overflow_add-ia c = record { fits = omega (arith, c.args.self.fit, c.loop-i.invariant.0, c.from-ia.ensures, first_within c.args.self.queue.now c.args.self.first.0 c.loop-i.i) }

pub loop-i-preserved : goal.loop-i-preserved
loop-i-preserved c =
    let one : c.from-k.result ≡ bool_byte (eqb c.at-f.result 1) = c.from-k.ensures ∙ ap (λ n. bool_byte (eqb c.at-f.result n)) c.flag.ensures in
    let next : c.loop-i.k + c.from-k.result ≡ length (kept_to c.args.self.queue.now c.args.self.first.0 c.args.wa.now (suc c.loop-i.i)) =
    omega (arith, one, byte_bit (eqb c.at-f.result 1), c.loop-i.invariant.1, kept_next c.at-f.ensures c.args.wa.now) in
    let fits : SFits w32 c.weight_at-x.result = search rules in
    let entry : to_z w32 (of_z w32 c.weight_at-x.result) ≡ get_or c.args.wa.now (first_count (flags_from c.args.self.queue.now c.args.self.first.0 c.loop-i.i)) no_weight =
    to_z-of_z fits ∙ c.weight_at-x.ensures ∙ ap (λ j. get_or c.args.wa.now j no_weight) c.loop-i.invariant.0 in
    rw (add-one c.loop-i.i) (
      omega (arith, c.loop-i.invariant.0, c.from-ia.ensures, first_next c.at-f.ensures),
      next,
      ap (λ j. take j c.if-k-list.list) next
          ∙ kept_more c.at-f.ensures c.args.wa.now c.loop-i.list c.if-k-list.list c.args.self.count c.loop-i-test.true (c.loop-i.auto.list ∙ c.requires)
          (ap (λ j. take j c.loop-i.list) (sym c.loop-i.invariant.1) ∙ c.loop-i.invariant.2)
          (λ h. elim c.if-k-list.branch [
            | then-k-list w ↦ w.list-is ∙ ap₂ (λ (j : ℕ) (z : ℤ). set c.loop-i.list j z) c.loop-i.invariant.1 entry
            | else-k-list w ↦ absurd (omega (arith, h, w.if-k-list.false, c.loop-i.invariant.1))
          ])
          (λ h. elim c.if-k-list.branch [
            | then-k-list w ↦ absurd (omega (arith, h, w.if-k-list.true, c.loop-i.invariant.1))
            | else-k-list w ↦ w.list-is
          ]),
    )
