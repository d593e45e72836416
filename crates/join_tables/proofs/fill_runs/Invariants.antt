use mathlib.Core.Path.{◌≡◌}
use Prim.Native.Nat.{◌*◌}
use lib.ListN.{length, get_or}
use Rattle.join_tables.specs.Entries.{FilledFrom, run_code}
use Rattle.join_tables.proofs.fill_runs.Given as goal

abbrev pub invariant-loop-x : goal.invariant-loop-x
invariant-loop-x l = record { size : length l.t ≡ 256; first : get_or l.t 0 0 ≡ 0; filled : FilledFrom run_code 0 (32 * l.x) l.t }
