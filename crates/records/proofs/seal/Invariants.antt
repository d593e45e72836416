use Prim.Native.Nat.{ℕ, ◌<◌}
use lib.ListN.{get_or}
use Rattle.records.proofs.Sealing.{Cleared}
use Rattle.records.proofs.seal.Given as goal

-- the records from k up to i are cleared
abbrev pub invariant-loop-i : goal.invariant-loop-i
invariant-loop-i l = record { cleared : Cleared l.initial.out l.fn.k.0 l.i l.out; bytes : (j : ℕ) → get_or l.out j 0 < 256 }
