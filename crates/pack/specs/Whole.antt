-- Keys laid end to end.
use Rattle.std.specs.Prelude.{◌≡◌, ℕ, ◌*◌, ◌<◌, ◌≤◌, length}
use Rattle.loes.specs.Limits.{max_width}
use Rattle.loes.specs.Bytes.{Bytes}
use Rattle.loes.specs.Entry.{key_bytes}

-- n keys of m bits, of t bytes each, and nothing besides
pub record Whole (m t n : ℕ) (l : Bytes) : Type 0 where
  pub positive : 0 < m
  pub narrow : m ≤ max_width
  pub size : t ≡ key_bytes m
  pub whole : length l ≡ t * n
