use mathlib.Core.Path.{◌≡◌}
use mathlib.Core.Bool.{true, false}
use Prim.Native.Nat.{◌%◌}
use borrow.Author.Tests.{ne_eqb}
use Rattle.loes.specs.Bytes.{odd}
use Rattle.records.specs.Records.{empty_record, record_of_code}
use Rattle.merge.specs.Union.{taken_record}
use native.Mathlib.Omega.{arith}
use Rattle.merge.proofs.record_if.Goals as goal

pub record_at-requires : goal.record_at-requires
unfolding odd
record_at-requires c = c.requires (rw c.if-f-eq1.true)

pub returns-then-f-eq1 : goal.returns-then-f-eq1
unfolding taken_record
returns-then-f-eq1 c = let o : odd c.args.f ≡ true = unfold odd in rw c.if-f-eq1.true in
    rw o c.record_at.ensures

pub returns-else-f-eq1 : goal.returns-else-f-eq1
unfolding taken_record empty_record record_of_code odd
returns-else-f-eq1 c = let o : odd c.args.f ≡ false = ne_eqb (c.args.f % 2) 1 c.if-f-eq1.false in
    (rw o, omega arith)
