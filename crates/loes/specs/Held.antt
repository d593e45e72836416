-- Edge bytes behind the check: what functions that test nothing more rely on.
use Rattle.std.specs.Prelude.{◌≡◌, ℕ, ◌*◌, ◌<◌, ◌≤◌, length}
use Rattle.loes.specs.Limits.{max_width, max_edges}
use Rattle.loes.specs.Bytes.{Bytes, bits_in}
use Rattle.loes.specs.Entry.{Entry, edges_of}
use Rattle.loes.specs.Read.{entry_along}

-- the entry that following the first b bits of edge bytes gives
unfoldable pub entry_held : ℕ → ℕ → Bytes → Entry
entry_held m b l = entry_along m (bits_in l b)

-- these bits are the edge sequence of that entry
pub record Holds (m b : ℕ) (l : Bytes) : Type 0 where
  pub positive : 0 < m
  pub narrow : m ≤ max_width
  pub few : b ≤ max_edges
  pub room : b ≤ 8 * length l
  pub same : edges_of (entry_held m b l) ≡ bits_in l b
