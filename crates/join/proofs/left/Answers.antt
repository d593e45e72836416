use Rattle.join.specs.declared.Join.TheVariants.{Difference}
use Rattle.join.proofs.Joins.{made}
use Rattle.join.proofs.left.Goals as goal

pub invariant_of-result : goal.invariant_of-result
invariant_of-result c = record { joined = (made Difference c.args.a.holds c.args.b.holds c.requires.one_width c.subtracted-d.ensures.edges).0 }

pub returns : goal.returns
returns c = (made Difference c.args.a.holds c.args.b.holds c.requires.one_width c.subtracted-d.ensures.edges).1
