use Prim.Native.Nat.{◌-◌}
use mathlib.Core.Path.{◌≡◌}
use Rattle.loes.specs.Entry.{edges_of}
use Rattle.loes.specs.Read.{entry_in}
use Rattle.prefix.specs.Cuts.{carried, Cuts}
use Rattle.prefix.proofs.carry_down.Given as goal

-- what is left to go on with comes out where all of it does
abbrev pub invariant-loop : goal.invariant-loop
invariant-loop l = Cuts (entry_in l.o.bytes.now) l.counter l.n × (carried (edges_of (entry_in l.o.bytes.now)) (l.o.encoding.width - l.counter) l.n ≡ carried (edges_of (entry_in l.o.bytes.now)) (l.o.encoding.width - l.d) l.initial.n)
