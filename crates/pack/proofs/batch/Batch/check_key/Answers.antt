use mathlib.Core.Path.{ap, sym, ◌∙◌}
use native.Mathlib.Omega.{arith}
use lib.ListN.{length}
use Rattle.loes.specs.Model.{unused_set}
use Rattle.pack.proofs.Places.{length_at}
use Rattle.pack.proofs.KeyTests.{unused_refused, descending_refused, key_passes}
use Rattle.pack.proofs.batch.Batch.check_key.Goals as goal

pub unused_set-requires : goal.unused_set-requires
unused_set-requires c = let b = c.args.self in ((b.whole.positive, b.whole.narrow), (b.whole.size, omega (arith, ap length c.key.ensures, length_at b c.args.i c.requires)))

pub returns-then-unused_set : goal.returns-then-unused_set
returns-then-unused_set c = unused_refused c.args.self c.args.i (sym c.if-unused_set.true ∙ c.unused_set.ensures ∙ ap (unused_set c.args.self.width) c.key.ensures)

pub returns-then-descends : goal.returns-then-descends
returns-then-descends c = descending_refused c.args.self c.args.i (sym c.if-unused_set.false ∙ c.unused_set.ensures ∙ ap (unused_set c.args.self.width) c.key.ensures) (sym c.if-descends.true ∙ c.descends.ensures)

pub returns : goal.returns
returns c = (key_passes c.args.self c.args.i (sym c.if-unused_set.false ∙ c.unused_set.ensures ∙ ap (unused_set c.args.self.width) c.key.ensures) (sym c.if-descends.false ∙ c.descends.ensures), c.first_new-new.ensures)
