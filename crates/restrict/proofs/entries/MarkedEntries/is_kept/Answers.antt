use mathlib.Core.Path.{sym}
use borrow.Author.Tests.{lt-ltb, le-ltb}
use Rattle.restrict.specs.Restriction.{kept_at}
use Rattle.records.proofs.Codes.{flag_code}
use Rattle.restrict.proofs.Marking.{code_edge}
use Rattle.restrict.proofs.entries.MarkedEntries.is_kept.Goals as goal

pub returns-then-j-self : goal.returns-then-j-self
unfolding kept_at
returns-then-j-self c = let x = c.record_at in
    rw (lt-ltb c.args.j.0 c.args.self.records.0 c.if-j-self.true, ← x.ensures.0) (code_edge x.result x.ensures.1)

pub returns-else-j-self : goal.returns-else-j-self
unfolding kept_at
returns-else-j-self c = let x = c.record_at-else-j-self in
    rw (le-ltb c.args.j.0 c.args.self.records.0 c.if-j-self.false) (sym (flag_code x.result _ c.args.self.queue.now c.args.j.0 x.ensures.1 x.ensures.0))
