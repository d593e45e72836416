use mathlib.Core.Bool.{◌&&◌}
use mathlib.Core.Path.{◌≡◌}
use lib.Dec.{eqb}
use lib.ListN.{drop}
use Rattle.loes.specs.Cursor.{all_zero}
use Rattle.cursor.proofs.are_zeros.Given as goal

abbrev pub invariant-loop-offset : goal.invariant-loop-offset
invariant-loop-offset l = all_zero l.offsets ≡ (eqb l.set 0 && all_zero (drop l.offset-index l.offsets))
