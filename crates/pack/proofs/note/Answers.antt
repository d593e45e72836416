use Rattle.pack.proofs.Sums.{noted, not_noted}
use Rattle.pack.proofs.note.Goals as goal

pub returns-then-from-m : goal.returns-then-from-m
returns-then-from-m c = noted c.args.counts.now c.args.from c.args.m c.if-from-m.true c.requires.0

pub returns-else-from-m : goal.returns-else-from-m
returns-else-from-m c = not_noted c.args.counts.now c.args.from c.args.m c.if-from-m.false
