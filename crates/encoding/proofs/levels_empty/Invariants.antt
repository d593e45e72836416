use Rattle.std.proofs.Common.{◌≡◌, ℕ, ◌<◌}
use Rattle.loes.specs.Read.{level_at}
use Rattle.encoding.proofs.levels_empty.Given as goal

abbrev pub invariant-loop-d : goal.invariant-loop-d
invariant-loop-d l = (i : ℕ) → i < l.d → level_at l.l i ≡ 0
