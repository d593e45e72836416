use borrow.Author.Rules.{rules}
use mathlib.Core.Path.{◌≡◌, sym, ◌∙◌}
use native.Mathlib.Omega.{arith}
use lib.ListN.{length}
use Rattle.cursor.proofs.Offsets.{numbers_long, numbers_at, copied_none, copied_more, copied_all}
use Rattle.cursor.proofs.numbers_of.Goals as goal

pub loop-d-init : goal.loop-d-init
loop-d-init c =
    let size : length c.args.c.offsets ≡ 256 = search rules in
    copied_none _ _ (sym (numbers_long _ ∙ size))

pub loop-d-preserved : goal.loop-d-preserved
loop-d-preserved c =
    let size : length c.args.c.offsets ≡ 256 = search rules in
    let l = c.loop-d in
    let n = numbers_long c.args.c.offsets in
    copied_more _ _ _ _ l.invariant (omega (arith, size, n)) (sym (numbers_at c.args.c.offsets l.d _ (omega (arith, size))))

pub returns : goal.returns
returns c =
    let size : length c.args.c.offsets ≡ 256 = search rules in
    let n = numbers_long c.args.c.offsets in copied_all _ _ _ c.loop-d.invariant (omega (arith, size, n))
