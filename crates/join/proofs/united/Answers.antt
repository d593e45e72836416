use Rattle.merge.proofs.Queue.{united}
use Rattle.join.specs.declared.Join.TheVariants.{Union}
use Rattle.join.proofs.Joins.{made}
use Rattle.join.proofs.united.Goals as goal

pub invariant_of-result : goal.invariant_of-result
invariant_of-result c = record { joined = (made Union c.args.a.holds c.args.b.holds c.requires.one_width (united c.merged-u.ensures c.seal.ensures)).0 }

pub returns : goal.returns
returns c = (made Union c.args.a.holds c.args.b.holds c.requires.one_width (united c.merged-u.ensures c.seal.ensures)).1
