use mathlib.Core.Path.{◌≡◌}
use Prim.Native.Nat.{◌+◌}
use Rattle.pack.specs.Marking.{set_bits}
use Rattle.pack.specs.Batch.{row_offset}
use Prim.Native.Nat.{◌*◌, ◌+◌}
use Rattle.pack.proofs.mark_level.Given as goal

-- so many edges are set
abbrev pub invariant-loop-i : goal.invariant-loop-i
invariant-loop-i l = l.edges ≡ set_bits (row_offset l.batch l.e l.first.0) 0 l.i l.fn.edges

abbrev pub invariant-loop-j : goal.invariant-loop-j
invariant-loop-j l = l.edges ≡ set_bits (row_offset l.batch l.e l.first.0) 0 (l.before + 4 * l.j) l.fn.edges

abbrev pub invariant-loop-i-2 : goal.invariant-loop-i-2
invariant-loop-i-2 l = l.edges ≡ set_bits (row_offset l.batch l.e l.first.0) 0 l.i l.fn.edges
