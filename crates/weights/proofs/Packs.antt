-- A batch packed with a list: pack's call, and nothing for each key at the front of the list.
use mathlib.Core.Path.{◌≡◌, refl, sym, ap, ap₂, ◌∙◌}
use Prim.Native.Nat.{ℕ, ◌≤◌, ◌<◌}
use mathlib.Core.Bool.{Bool, true, false, cond, or-true}
use mathlib.Core.List.{List, [], ◌∷◌, map, append_assoc}
use mathlib.Core.Option.{none, some}
use native.Mathlib.Omega.{arith}
use lib.ListN.{length, replicate}
use lib.Dec.{ltb}
use Rattle.loes.specs.Limits.{max_edges}
use Rattle.loes.specs.Bytes.{Bytes, front}
use Rattle.loes.specs.Keys.{Key}
use Rattle.loes.specs.Entry.{Entry, keys_of, count, edge_count, too_many_edges}
use Rattle.loes.specs.Encode.{encode}
use Rattle.loes.specs.Read.{end_of}
use Rattle.loes.specs.Refusals.{too_large, short_buffer, test, first_of}
use Rattle.loes.specs.Model.{refused, wrote, Outcome, refusal, pack_tests, batch_entry}
use Rattle.loes.specs.Calls.{pack_call}
use Rattle.loes.proofs.Tests.{yes_lt, no_lt, lt_yes, lt_no, none_append, some_first}
use Rattle.pack.specs.Packing.{edge_tests}
use Rattle.pack.proofs.Valid.{batch_valid}
use Rattle.pack.proofs.Written.{batch_length, call_short, call_fits}
use Rattle.weights.specs.Weights.{Weights, no_weight, listed, WeightedOutcome, leaving, writes_with, pack_weighted_call}
use Rattle.weights.specs.History.{changes}
use Rattle.weights.proofs.Lists.{length_listed}
use Rattle.weights.proofs.Writes.{checked_refused, writes_on, writes_short, writes_fits}

abbrev pub zeros : ℕ → Weights
zeros n = replicate n no_weight

-- they are the list of an entry whose keys weigh nothing
zeros_listed : (e : Entry) → zeros (count e) ≡ listed e (λ (k : Key). no_weight)
unfolding listed count
zeros_listed e = go (keys_of e)
  where
    go : (l : List Key) → zeros (length l) ≡ map (λ (k : Key). no_weight) l
    go [] = refl
    go (x ∷ l) = ap (λ ws. no_weight ∷ ws) (go l)

-- an outcome of pack, with a list beside it: n zeros come to the list's front if the batch was packed
unfoldable pub with_zeros : ℕ → Weights → Outcome → WeightedOutcome
with_zeros n ws o = leaving o.answer o.buffers (cond (changes o.answer) (front (zeros n) ws) ws)

module _ (m : ℕ) (l out : Bytes) (ws : Weights) where
  abbrev e : Entry
  e = batch_entry m l

  abbrev list : Weights
  list = listed e (λ (k : Key). no_weight)

  long_list : length list ≡ count e
  long_list = length_listed e (λ (k : Key). no_weight)

  -- one of pack's tests refuses, or 5
  pub weighted_refused : (k : ℕ) → first_of (edge_tests m l) ≡ some k → pack_weighted_call m l out ws ≡ leaving (refused k) (out ∷ []) ws
  unfolding pack_weighted_call writes_with edge_tests
  weighted_refused k h =
      checked_refused _ (out ∷ []) ws _ k
      (ap first_of (sym (append_assoc (pack_tests m l) (test (too_many_edges (edge_count e)) too_large ∷ []) _)) ∙ some_first (edge_tests m l) _ k h)

  module _ (accepted : first_of (edge_tests m l) ≡ none) where
    few : edge_count e ≤ max_edges
    few = (batch_valid m l accepted).few

    -- what is left is to write the entry and its list
    weighted_on : pack_weighted_call m l out ws ≡ writes_with [] [] e list out ws
    unfolding pack_weighted_call edge_tests
    weighted_on = writes_on (pack_tests m l) [] e list out ws (none_append (pack_tests m l) _ accepted).0

    -- 14: the list is too short
    pub weighted_short : length ws < count e → pack_weighted_call m l out ws ≡ leaving (refused short_buffer) (out ∷ []) ws
    weighted_short h =
        weighted_on
        ∙ writes_short [] e list out ws few (rw (lt_yes (length ws) (length list) (omega (arith, long_list))) (or-true (ltb (length out) (length (encode e)))))

    -- the list is long enough: as pack, and zeros if that is accepted
    pub weighted_as_packed : count e ≤ length ws → pack_weighted_call m l out ws ≡ with_zeros (count e) ws (pack_call m l out)
    weighted_as_packed h = weighted_on ∙ go (ltb (length out) (length (encode e))) refl
      where
        room : ltb (length ws) (length list) ≡ false
        room = lt_no (length ws) (length list) (omega (arith, long_list))

        long : length (encode e) ≡ end_of m (edge_count e)
        long = batch_length m (edge_count e) l accepted refl

        go : (b : Bool) → ltb (length out) (length (encode e)) ≡ b → writes_with [] [] e list out ws ≡ with_zeros (count e) ws (pack_call m l out)
        go true z =
            writes_short [] e list out ws few (rw z)
            ∙ sym (ap (with_zeros (count e) ws) (call_short m (edge_count e) l accepted refl out (omega (arith, yes_lt (length out) (length (encode e)) z, long))) ∙ unfold with_zeros changes refusal in refl)
        go false z =
            writes_fits [] e list out ws few (rw (z, room)) (unfold first_of in refl)
            ∙ ap₂ (λ n x. leaving (wrote (n ∷ [])) (front (encode e) out ∷ []) (front x ws)) long (sym (zeros_listed e))
            ∙ sym (ap (with_zeros (count e) ws) (call_fits m (edge_count e) l accepted refl out (omega (arith, no_lt (length out) (length (encode e)) z, long))) ∙ unfold with_zeros changes in refl)

    -- the same, of what pack left
    pub as_packed : (n : ℕ) (o : Outcome) → n ≡ count e → n ≤ length ws → o ≡ pack_call m l out → with_zeros n ws o ≡ pack_weighted_call m l out ws
    as_packed n o z r h = rw (z, h) (sym (weighted_as_packed (omega (arith, z))))
