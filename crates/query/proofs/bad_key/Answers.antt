use mathlib.Core.Path.{refl}
use native.Mathlib.Omega.{arith}
use borrow.Author.Tests.{eq-eqb, ne_eqb}
use Rattle.loes.specs.Bytes.{started, tabulate, bits_in}
use Rattle.loes.specs.Keys.{any_of}
use Rattle.loes.specs.Entry.{key_bytes}
use Rattle.loes.specs.Model.{unused_set}
use Rattle.query.proofs.bad_key.Goals as goal

pub unused_set-requires : goal.unused_set-requires
unfolding key_bytes
unused_set-requires c = ((omega (arith, c.if-m-ne0.true), c.requires), (c.bytes_for-t.ensures.0, omega (arith, c.if-key-t.false)))

pub returns-then-key-t : goal.returns-then-key-t
unfolding key_bytes
returns-then-key-t c = rw (← c.bytes_for-t.ensures.0, ne_eqb _ _ c.if-key-t.true)

pub returns-then-m-ne0 : goal.returns-then-m-ne0
unfolding key_bytes
returns-then-m-ne0 c = rw (← c.bytes_for-t.ensures.0, eq-eqb _ _ c.if-key-t.false) c.unused_set.ensures

pub returns-else-m-ne0 : goal.returns-else-m-ne0
unfolding key_bytes
returns-else-m-ne0 c = rw (← c.bytes_for-t.ensures.0, eq-eqb _ _ c.if-key-t.false, c.if-m-ne0.false) (unfold unused_set bits_in started tabulate any_of in refl)
