-- Calls that write encodings: what each test that holds, or none, makes of them.
use mathlib.Core.Path.{◌≡◌, refl}
use Prim.Native.Nat.{ℕ, ◌≤◌, ◌<◌}
use mathlib.Core.Bool.{true, false}
use mathlib.Core.List.{List, [], ◌∷◌, map}
use mathlib.Core.Option.{none, some}
use lib.ListN.{length}
use Rattle.loes.specs.Limits.{max_edges}
use Rattle.loes.specs.Bytes.{Bytes, front}
use Rattle.loes.specs.Keys.{any_of}
use Rattle.loes.specs.Entry.{Entry, edge_count, too_many_edges}
use Rattle.loes.specs.Encode.{encode}
use Rattle.loes.specs.Refusals.{too_large, short_buffer, Tests, test, first_of}
use Rattle.loes.specs.Model.{wrote, writing, writing_all, refusal, refused_or, tested, fronts, any_short, writes}
use Rattle.loes.proofs.Tests.{lt_yes, lt_no, none_first, some_first}

-- one of the call's own tests holds
pub writes_refused : (ts : Tests) (es : List Entry) (bufs : List Bytes) (k : ℕ) → first_of ts ≡ some k → writes ts es bufs ≡ refusal k bufs
unfolding writes tested refused_or
writes_refused ts es bufs k h = rw (some_first ts _ k h)

-- none of them does
pub writes_on : (ts : Tests) (es : List Entry) (bufs : List Bytes) → first_of ts ≡ none → writes ts es bufs ≡ writes [] es bufs
unfolding writes tested
writes_on ts es bufs h = rw (none_first ts _ h)

-- if no entry has too many edges: one does not fit, or all do
module _ (es : List Entry) (bufs : List Bytes) (few : any_of (λ (e : Entry). too_many_edges (edge_count e)) es ≡ false) where
  pub all_short : any_short (map encode es) bufs ≡ true → writes [] es bufs ≡ refusal short_buffer bufs
  unfolding writes tested
  all_short h = rw (few, h) (unfold first_of test refused_or in refl)

  pub all_fit : any_short (map encode es) bufs ≡ false → (writes [] es bufs).outcome ≡ writing_all (wrote (map (λ (e : Entry). length (encode e)) es)) (fronts (map encode es) bufs)
  unfolding writes tested
  all_fit h = rw (few, h) (unfold first_of test refused_or in refl)

-- one entry
module _ (e : Entry) (out : Bytes) where
  -- 5
  pub writes_large : max_edges < edge_count e → writes [] (e ∷ []) (out ∷ []) ≡ refusal too_large (out ∷ [])
  unfolding writes tested refused_or first_of test any_of too_many_edges
  writes_large h = rw (lt_yes max_edges (edge_count e) h)

  module _ (h : edge_count e ≤ max_edges) where
    few : any_of (λ (e : Entry). too_many_edges (edge_count e)) (e ∷ []) ≡ false
    unfolding any_of too_many_edges
    few = rw (lt_no max_edges (edge_count e) h)

    -- 14
    pub writes_short : length out < length (encode e) → writes [] (e ∷ []) (out ∷ []) ≡ refusal short_buffer (out ∷ [])
    unfolding any_short
    writes_short s = all_short (e ∷ []) (out ∷ []) few (rw (lt_yes (length out) (length (encode e)) s))

    -- accepted
    pub writes_fits : length (encode e) ≤ length out → (writes [] (e ∷ []) (out ∷ [])).outcome ≡ writing (wrote (length (encode e) ∷ [])) (front (encode e) out)
    unfolding any_short fronts
    writes_fits s = all_fit (e ∷ []) (out ∷ []) few (rw (lt_no (length out) (length (encode e)) s))
