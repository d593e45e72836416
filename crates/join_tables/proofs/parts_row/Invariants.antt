use Prim.Native.Nat.{◌+◌, ◌*◌}
use Rattle.join_tables.specs.Entries.{FilledFrom, part_code}
use Rattle.join_tables.proofs.parts_row.Given as goal

abbrev pub invariant-loop-y : goal.invariant-loop-y
invariant-loop-y l = FilledFrom part_code 0 (16 * l.k + l.y) l.t
