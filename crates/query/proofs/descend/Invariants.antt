use Rattle.loes.specs.Read.{entry_in}
use Rattle.query.specs.Descent.{Way}
use Rattle.query.proofs.descend.Given as goal

abbrev pub invariant-loop-d : goal.invariant-loop-d
invariant-loop-d l = Way (entry_in l.o.bytes.now) l.key l.d l.at.«record».0 l.at.found
