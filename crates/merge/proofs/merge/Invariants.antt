use Rattle.merge.proofs.Held.{set_in}
use Rattle.merge.proofs.Queue.{Done}
use Rattle.merge.proofs.merge.Given as goal

-- d levels are done
abbrev pub invariant-loop : goal.invariant-loop
invariant-loop l = Done l.a.width (set_in l.a.width l.a.bits l.a.bytes.now) (set_in l.a.width l.b.bits l.b.bytes.now) l.initial.q l.counter l.from.0 l.at.a.0 l.at.b.0 l.at.tail.0 l.q
