use mathlib.Core.Path.{◌≡◌}
use Prim.Native.Nat.{◌*◌}
use lib.ListN.{length}
use Rattle.join_tables.specs.Entries.{FilledFrom, spread_code}
use Rattle.join_tables.proofs.fill_spread.Given as goal

abbrev pub invariant-loop-f : goal.invariant-loop-f
invariant-loop-f l = record { size : length l.t ≡ 4096; filled : FilledFrom spread_code 2048 (256 * l.f) l.t }

-- row f and those behind it are filled
abbrev pub invariant-loop-f-2 : goal.invariant-loop-f-2
invariant-loop-f-2 l = record { size : length l.t ≡ 4096; filled : FilledFrom spread_code (256 * l.f) 4096 l.t }
