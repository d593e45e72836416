-- What is answered for a batch: pack's tests up to 5, and room for the edge bytes of its entry.
use Rattle.std.specs.Prelude.{◌≡◌, ℕ, ◌<◌, List, [], ◌∷◌, ◌++◌, length, get_or, Result, Ok, Err}
use mathlib.Core.Option.{none, some}
use Rattle.loes.specs.Limits.{max_width}
use Rattle.loes.specs.Bytes.{Bytes, started}
use Rattle.loes.specs.Prefixes.{records_before}
use Rattle.loes.specs.Entry.{edge_count, too_many_edges}
use Rattle.loes.specs.Refusals.{too_large, Tests, test, first_of}
use Rattle.loes.specs.Model.{pack_tests, batch_entry}
use Rattle.loes.specs.Numbers.{number_of}
use Rattle.loes.specs.declared.refusal.Refusal.{Refusal}

-- 4, 10, then key by key 11 and 12, then 5
unfoldable pub edge_tests : ℕ → Bytes → Tests
edge_tests m l = pack_tests m l ++ test (too_many_edges (edge_count (batch_entry m l))) too_large ∷ []

-- ---- On the way
-- no record is counted yet
pub record Blank (levels : List ℕ) : Type 0 where
  pub long : length levels ≡ max_width
  pub zero : (e : ℕ) → e < max_width → get_or levels e 0 ≡ 0

-- the batch passes, and the records before each level are known
pub record Ready (m : ℕ) (l : Bytes) (levels : List ℕ) : Type 0 where
  pub accepted : first_of (edge_tests m l) ≡ none
  pub starts : (e : ℕ) → e < m → get_or levels e 0 ≡ records_before e m (batch_entry m l).set

abbrev pub Planned : ℕ → Bytes → List ℕ → Result ℕ Refusal → Type 0
Planned m l levels (Err k) = first_of (edge_tests m l) ≡ some (number_of k)
Planned m l levels (Ok b) = Ready m l levels × (b ≡ edge_count (batch_entry m l))

-- room for its edge bytes
pub record Unfilled (m : ℕ) (l : Bytes) (levels : List ℕ) (edges : Bytes) : Type 0 where
  pub ready : Ready m l levels
  pub long : length levels ≡ max_width
  pub room : length edges ≡ started 8 (edge_count (batch_entry m l))
