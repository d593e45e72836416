use mathlib.Core.Path.{◌≡◌}
use Prim.Native.Nat.{ℕ, ◌<◌}
use lib.ListN.{get_or}
use Prim.Native.Nat.{◌*◌}
use Rattle.pack.proofs.same_words.Given as goal

abbrev pub invariant-loop-j : goal.invariant-loop-j
invariant-loop-j l = (i : ℕ) → i < 8 * l.j → get_or l.x i 0 ≡ get_or l.y i 0
