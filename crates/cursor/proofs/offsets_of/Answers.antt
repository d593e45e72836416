use lib.ListN.{length, get_or}
use mathlib.Core.Path.{◌≡◌, refl}
use native.Mathlib.Omega.{arith}
use borrow.Author.Rules.{rules}
use Rattle.cursor.specs.Steps.{numbers}
use Rattle.cursor.proofs.Offsets.{numbers_set, copied_none, copied_more, copied_all}
use Rattle.cursor.proofs.offsets_of.Goals as goal

pub loop-d-init : goal.loop-d-init
unfolding numbers
loop-d-init c = copied_none _ _ (search rules)

pub loop-d-preserved : goal.loop-d-preserved
loop-d-preserved c =
    let size : length c.args.path ≡ 256 = search rules in
    let l = c.loop-d in
    rw (numbers_set l.offsets l.d (record { 0 = get_or c.args.path l.d 0 })) (copied_more _ _ _ _ l.invariant (omega (arith, size)) refl)

pub returns : goal.returns
returns c =
    let size : length c.args.path ≡ 256 = search rules in
    copied_all _ _ _ c.loop-d.invariant (omega (arith, size))
