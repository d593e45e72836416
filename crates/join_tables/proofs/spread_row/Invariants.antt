use Prim.Native.Nat.{◌+◌, ◌*◌}
use Rattle.join_tables.specs.Entries.{FilledFrom, spread_code}
use Rattle.join_tables.proofs.spread_row.Given as goal

abbrev pub invariant-loop-x : goal.invariant-loop-x
invariant-loop-x l = FilledFrom spread_code 2048 (256 * l.f + l.x) l.t
