use mathlib.Core.Path.{◌≡◌, ◌∙◌}
use mathlib.Core.Bool.{true, false}
use Prim.Native.Nat.{◌%◌}
use borrow.Author.Tests.{ne_eqb}
use mir.Syntax.{w32}
use mir.Facts.{to_z-of_z}
use Rattle.loes.specs.Bytes.{odd}
use Rattle.weights.specs.Lists.{taken}
use Rattle.weights.proofs.member_flags.weight_if.Goals as goal

pub returns-then-f-eq1 : goal.returns-then-f-eq1
unfolding taken
returns-then-f-eq1 c = let o : odd c.args.f ≡ true = unfold odd in rw c.if-f-eq1.true in
    to_z-of_z {w = w32} {z = c.weight_at-x.result} (record { sfits = c.weight_at-x.type_inv }) ∙ c.weight_at-x.ensures ∙ rw o

pub returns-else-f-eq1 : goal.returns-else-f-eq1
unfolding taken
returns-else-f-eq1 c = let o : odd c.args.f ≡ false = unfold odd in ne_eqb (c.args.f % 2) 1 c.if-f-eq1.false in
    rw o
