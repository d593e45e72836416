use mathlib.Core.Path.{◌≡◌}
use Prim.Native.Nat.{ℕ, ◌≤◌}
use Rattle.loes.specs.Bytes.{Bytes, pack_bits}
use Rattle.pack.specs.Rising.{set_below}
use Rattle.pack.proofs.Marked.{marked_edges, split_at}
use Rattle.pack.specs.Batch.{key, members}
use Rattle.pack.specs.declared.batch.Batch.{Batch}
use Prim.Native.Nat.{◌≤◌}
use Rattle.pack.proofs.mark_levels.Given as goal

-- the levels from e on are marked
abbrev pub from : Batch → ℕ → Bytes
from batch e = pack_bits (marked_edges batch.width batch.width (members batch) (split_at e (set_below (key batch.width batch.bytes.now) 0) (members batch)))

abbrev pub invariant-loop-e : goal.invariant-loop-e
invariant-loop-e l = record { behind : l.top ≤ l.e; marked : l.edges ≡ from l.batch l.e }
