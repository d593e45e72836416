use mathlib.Core.Path.{◌≡◌}
use Rattle.loes.specs.Read.{entry_in}
use Rattle.query.specs.Select.{level_start}
use Rattle.query.proofs.Ascent.{UpTo}
use Rattle.query.proofs.path_at.Given as goal

abbrev pub invariant-loop-d : goal.invariant-loop-d
invariant-loop-d l = UpTo (entry_in l.o.bytes.now) l.fn.i.0 l.d l.«record» l.initial.offsets l.offsets × (l.end ≡ level_start (entry_in l.o.bytes.now) l.d)
