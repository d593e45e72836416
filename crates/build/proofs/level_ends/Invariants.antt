use Rattle.std.proofs.Common.{◌≡◌, ℕ, suc, ◌/◌, ◌<◌, get_or}
use Rattle.loes.specs.Bytes.{Bytes, bits_in}
use Rattle.loes.specs.Edges.{rank}
use Rattle.loes.specs.Prefixes.{roots, ends}
use Rattle.build.proofs.level_ends.Given as goal

-- the end of the level before level d
abbrev pub end_at : Bytes → ℕ → ℕ → ℕ
end_at l b d = ends (roots b) (bits_in l b) d

abbrev pub invariant-loop-place : goal.invariant-loop-place
invariant-loop-place l = record {
  same : l.seen.edges.now ≡ l.edges;
  seen : l.seen.bytes ≡ end_at l.edges l.b l.place-index / 8;
  rank : l.n ≡ rank (bits_in l.edges l.b) (end_at l.edges l.b l.place-index);
  written : (j : ℕ) → j < l.place-index → get_or l.ends j 0 ≡ end_at l.edges l.b (suc j);
}
