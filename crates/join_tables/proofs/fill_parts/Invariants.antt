use mathlib.Core.Path.{◌≡◌}
use Prim.Native.Nat.{◌*◌}
use lib.ListN.{length}
use Rattle.join_tables.specs.Entries.{FilledFrom, part_code}
use Rattle.join_tables.proofs.fill_parts.Given as goal

abbrev pub invariant-loop-k : goal.invariant-loop-k
invariant-loop-k l = record { size : length l.t ≡ 256; filled : FilledFrom part_code 0 (16 * l.k) l.t }
