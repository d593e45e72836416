use lib.ListN.{get_or}
use mathlib.Core.Bool.{false}
use mathlib.Core.Path.{◌≡◌}
use Prim.Native.Nat.{ℕ, ◌≤◌, ◌<◌}
use Rattle.loes.specs.Entry.{edges_of}
use Rattle.loes.specs.Read.{entry_in}
use Rattle.cursor.specs.Moves.{turns}
use Rattle.cursor.proofs.turn_level.Given as goal

abbrev pub invariant-loop-d : goal.invariant-loop-d
invariant-loop-d l = (j : ℕ) → l.d ≤ j → j < l.o.encoding.width → turns (edges_of (entry_in l.o.bytes.now)) (get_or l.path j 0) ≡ false
