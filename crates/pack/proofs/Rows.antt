-- A level on which each key has a record of its own
use mathlib.Core.Path.{◌≡◌}
use Prim.Native.Nat.{ℕ, ◌≤◌}
use native.Mathlib.Omega.{arith}
use lib.ListN.{length}
use Rattle.loes.specs.Bytes.{Bytes}
use Rattle.pack.specs.declared.batch.Batch.{Batch}
use Rattle.pack.specs.Batch.{Row}

-- fewer keys, and edge bytes of the same length
pub fewer : (batch : Batch) (n k e first : ℕ) (edges new : Bytes) → Row batch n e first edges → k ≤ n → length new ≡ length edges → Row batch k e first new
fewer batch n k e first edges new r h same =
    record { whole = omega (arith, r.whole); inside = r.inside; fit = omega (arith, r.fit); small = omega (arith, r.small) }
