-- A call that writes an encoding and its list: what it does where a test holds, and where none does.
use mathlib.Core.Path.{◌≡◌, ap}
use Prim.Native.Nat.{ℕ, ◌≤◌, ◌<◌}
use mathlib.Core.Bool.{Bool, true, false, ◌||◌}
use mathlib.Core.List.{List, [], ◌∷◌}
use mathlib.Core.Option.{none, some}
use lib.ListN.{length}
use lib.Dec.{ltb}
use Rattle.loes.specs.Limits.{max_edges}
use Rattle.loes.specs.Bytes.{Bytes, front}
use Rattle.loes.specs.Entry.{Entry, edge_count, too_many_edges}
use Rattle.loes.specs.Encode.{encode}
use Rattle.loes.specs.Refusals.{too_large, short_buffer, Tests, test, first_of}
use Rattle.loes.specs.Model.{refused, wrote, refusal, refused_or, tested}
use Rattle.loes.proofs.Tests.{lt_yes, lt_no, none_first, some_first}
use Rattle.weights.specs.Weights.{Weights, outputs, WeightedOutcome, leaving, checked, writes_with}

-- ---- A call with tests
module _ (ts : Tests) (bufs : List Bytes) (ws : Weights) (done : WeightedOutcome) where
  pub checked_refused : (k : ℕ) → first_of ts ≡ some k → checked ts bufs ws done ≡ leaving (refused k) bufs ws
  unfolding checked tested refused_or refusal
  checked_refused k h = ap (λ o. (refused_or o (outputs bufs ws) (record { outcome = done; added = [] })).outcome) h

  pub checked_done : first_of ts ≡ none → checked ts bufs ws done ≡ done
  unfolding checked tested refused_or
  checked_done h = ap (λ o. (refused_or o (outputs bufs ws) (record { outcome = done; added = [] })).outcome) h

  pub checked_same : (us : Tests) → first_of ts ≡ first_of us → checked ts bufs ws done ≡ checked us bufs ws done
  unfolding checked tested
  checked_same us h = ap (λ o. (refused_or o (outputs bufs ws) (record { outcome = done; added = [] })).outcome) h

-- ---- One that writes
module _ (ts last : Tests) (e : Entry) (l : Weights) (out : Bytes) (ws : Weights) where
  pub writes_refused : (k : ℕ) → first_of ts ≡ some k → writes_with ts last e l out ws ≡ leaving (refused k) (out ∷ []) ws
  unfolding writes_with
  writes_refused k z = checked_refused _ (out ∷ []) ws _ k (some_first ts _ k z)

  pub writes_on : first_of ts ≡ none → writes_with ts last e l out ws ≡ writes_with [] last e l out ws
  unfolding writes_with
  writes_on z = checked_same _ (out ∷ []) ws _ _ (none_first ts _ z)

module _ (last : Tests) (e : Entry) (l : Weights) (out : Bytes) (ws : Weights) where
  abbrev short : Bool
  short = ltb (length out) (length (encode e)) || ltb (length ws) (length l)

  pub writes_large : max_edges < edge_count e → writes_with [] last e l out ws ≡ leaving (refused too_large) (out ∷ []) ws
  unfolding writes_with
  writes_large h = checked_refused _ (out ∷ []) ws _ too_large (unfold too_many_edges first_of test in rw (lt_yes max_edges (edge_count e) h))

  module _ (few : edge_count e ≤ max_edges) where
    pub writes_short : short ≡ true → writes_with [] last e l out ws ≡ leaving (refused short_buffer) (out ∷ []) ws
    unfolding writes_with
    writes_short h = checked_refused _ (out ∷ []) ws _ short_buffer (unfold too_many_edges first_of test in rw (lt_no max_edges (edge_count e) few, h))

    module _ (room : short ≡ false) where
      pub writes_last : (k : ℕ) → first_of last ≡ some k → writes_with [] last e l out ws ≡ leaving (refused k) (out ∷ []) ws
      unfolding writes_with
      writes_last k h = checked_refused _ (out ∷ []) ws _ k (unfold too_many_edges in rw (lt_no max_edges (edge_count e) few, room) (unfold first_of test in h))

      pub writes_fits : first_of last ≡ none → writes_with [] last e l out ws ≡ leaving (wrote (length (encode e) ∷ [])) (front (encode e) out ∷ []) (front l ws)
      unfolding writes_with
      writes_fits h = checked_done _ (out ∷ []) ws _ (unfold too_many_edges in rw (lt_no max_edges (edge_count e) few, room) (unfold first_of test in h))

-- one last test
pub last_yes : (b : Bool) (k : ℕ) → b ≡ true → first_of (test b k ∷ []) ≡ some k
unfolding first_of test
last_yes b k z = rw z

pub last_no : (b : Bool) (k : ℕ) → b ≡ false → first_of (test b k ∷ []) ≡ none
unfolding first_of test
last_no b k z = rw z

pub wrote_same : {n m : ℕ} {x y : Bytes} {u v : Weights} → n ≡ m → x ≡ y → u ≡ v → leaving (wrote (n ∷ [])) (x ∷ []) u ≡ leaving (wrote (m ∷ [])) (y ∷ []) v
wrote_same p q r = rw (p, q, r)
