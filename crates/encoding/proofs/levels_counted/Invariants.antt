use Rattle.std.proofs.Common.{◌≡◌, ℕ, suc, ◌<◌}
use Rattle.loes.specs.Prefixes.{roots, ends}
use Rattle.loes.specs.Read.{level_at}
use Rattle.encoding.specs.Opened.{edges_at}
use Rattle.encoding.proofs.Levels.{Level}
use Rattle.encoding.proofs.levels_counted.Given as goal

abbrev pub invariant-loop-d : goal.invariant-loop-d
invariant-loop-d l =
    Level (roots l.e.bits) (edges_at l.l l.e) l.e.bits l.d l.from l.start l.n
    × ((i : ℕ) → i < l.d → level_at l.l i ≡ ends (roots l.e.bits) (edges_at l.l l.e) (suc i))
