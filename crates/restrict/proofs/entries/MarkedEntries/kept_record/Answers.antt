use mathlib.Core.Path.{◌≡◌, ◌∙◌}
use mathlib.Core.Bool.{◌&&◌}
use Prim.Native.Nat.{◌+◌, ◌/◌, ◌%◌}
use native.Mathlib.Omega.{arith}
use borrow.Author.Tests.{ne_eqb}
use Rattle.loes.specs.Bytes.{odd}
use Rattle.restrict.specs.Restriction.{kept_at}
use Rattle.restrict.proofs.Marking.{odd_yes, odd_no, bools_less, kept_bools}
use Rattle.restrict.proofs.entries.MarkedEntries.kept_record.Goals.{then-x-eq1, else-x-eq1, then-x-eq1-2, else-x-eq1-2}
use Rattle.restrict.proofs.entries.MarkedEntries.kept_record.Goals as goal

pub returns : goal.returns
returns c = let s = c.args.self in
    let x = c.args.x in
    let f = kept_at s.flag s.marks.now s.queue.now s.records.0 in
    let u : c.if-x-eq1.on_zero ≡ (odd (x / 2) && f c.args.c.0) = elim c.if-x-eq1.branch [
      | then-x-eq1 w ↦ rw (odd_yes (x / 2) (omega (arith, w.if-x-eq1.true))) (w.on_zero-is ∙ w.is_kept-on_zero.ensures)
      | else-x-eq1 w ↦ rw (odd_no (x / 2) (omega (arith, c.requires.1, w.if-x-eq1.false))) (w.on_zero-is ∙ ne_eqb (x / 2) 1 w.if-x-eq1.false)
    ] in
    let v : c.if-x-eq1-2.on_one ≡ (odd x && f (c.args.c.0 + x / 2)) = elim c.if-x-eq1-2.branch [
      | then-x-eq1-2 w ↦ rw (odd_yes x w.if-x-eq1-2.true) (w.on_one-is ∙ w.is_kept-on_one.ensures)
      | else-x-eq1-2 w ↦ rw (odd_no x (omega (arith, w.if-x-eq1-2.false))) (w.on_one-is ∙ ne_eqb (x % 2) 1 w.if-x-eq1-2.false)
    ] in
    (kept_bools f c.args.c.0 x _ _ c.requires.1 u v, bools_less c.if-x-eq1.on_zero c.if-x-eq1-2.on_one)
