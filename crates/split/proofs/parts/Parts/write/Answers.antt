use mathlib.Core.Path.{◌≡◌, sym, ap, ap₂, ◌∙◌}
use mathlib.Core.Bool.{true, false, ◌||◌}
use mathlib.Core.List.{[], ◌∷◌}
use lib.Dec.{ltb}
use lib.ListN.{length}
use Rattle.loes.specs.Read.{end_of}
use Rattle.loes.specs.Model.{wrote, writing_all, refusal}
use Rattle.split.specs.Splitting.{split_outcome}
use Rattle.split.proofs.Writing.{three_refused, three_written}
use Rattle.split.proofs.parts.Parts.write.Goals.{then-too_long-via-then-too_long, then-too_long-via-else-too_long+then-too_long-2, then-too_long-via-else-too_long+else-too_long-2+then-too_long-3}
use Rattle.split.proofs.parts.Parts.write.Goals as goal

pub returns-then-too_long : goal.returns-then-too_long
unfolding split_outcome refusal
returns-then-too_long c =
    let short : (ltb (length c.args.both.now) (end_of c.args.self.both.width c.args.self.both.bits) || (ltb (length c.args.only_first.now) (end_of c.args.self.only_first.width c.args.self.only_first.bits) || ltb (length c.args.only_second.now) (end_of c.args.self.only_second.width c.args.self.only_second.bits))) ≡ true =
    elim c.then-too_long.branch [
      | then-too_long-via-then-too_long w ↦ rw (← c.too_long.ensures, w.if-too_long.true)
      | then-too_long-via-else-too_long+then-too_long-2 w ↦ rw (← c.too_long.ensures, w.if-too_long.false, ← w.too_long-else-too_long.ensures, w.if-too_long-2.true)
      | then-too_long-via-else-too_long+else-too_long-2+then-too_long-3 w ↦
          rw (← c.too_long.ensures, w.if-too_long.false, ← w.too_long-else-too_long.ensures, w.if-too_long-2.false, ← w.too_long-else-too_long-2.ensures, w.if-too_long-3.true)
    ] in
    sym (ap (λ x. x.outcome) (three_refused c.args.self.both c.args.self.only_first c.args.self.only_second c.args.self.few_both c.args.self.few_first c.args.self.few_second c.args.both.now c.args.only_first.now c.args.only_second.now short))

pub returns : goal.returns
unfolding split_outcome
returns c =
    let x = c.put.ensures in
    let y = c.put-2.ensures in
    let z = c.put-3.ensures in
    let fits : (ltb (length c.args.both.now) (end_of c.args.self.both.width c.args.self.both.bits) || (ltb (length c.args.only_first.now) (end_of c.args.self.only_first.width c.args.self.only_first.bits) || ltb (length c.args.only_second.now) (end_of c.args.self.only_second.width c.args.self.only_second.bits))) ≡ false =
    rw (← c.too_long.ensures, c.if-too_long.false, ← c.too_long-else-too_long.ensures, c.if-too_long-2.false, ← c.too_long-else-too_long-2.ensures, c.if-too_long-3.false) in
    ap₂ (λ n l. writing_all (wrote n) l) (ap₂ ◌∷◌ x.0 (ap₂ ◌∷◌ y.0 (ap (λ n. n ∷ []) z.0))) (ap₂ ◌∷◌ x.1 (ap₂ ◌∷◌ y.1 (ap (λ l. l ∷ []) z.1)))
    ∙ sym (three_written c.args.self.both c.args.self.only_first c.args.self.only_second c.args.self.few_both c.args.self.few_first c.args.self.few_second c.args.both.now c.args.only_first.now c.args.only_second.now fits)
