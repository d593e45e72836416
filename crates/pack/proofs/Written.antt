-- The edges of a batch that passed are what the writer is given, and writing them is what is left of the call.
use mathlib.Core.Path.{◌≡◌, ap, ◌∙◌}
use Prim.Native.Nat.{ℕ, ◌≤◌, ◌<◌}
use mathlib.Core.List.{[], ◌∷◌}
use mathlib.Core.Option.{none}
use native.Mathlib.Omega.{arith}
use lib.ListN.{length}
use Rattle.loes.specs.Limits.{max_width, max_edges}
use Rattle.loes.specs.Bytes.{Bytes, pack_bits, front}
use Rattle.loes.specs.Entry.{Entry, edges_of, edge_count, Valid}
use Rattle.loes.specs.Encode.{encode}
use Rattle.loes.specs.Read.{end_of}
use Rattle.loes.specs.Refusals.{short_buffer, first_of}
use Rattle.loes.specs.Model.{wrote, refusal, batch_entry}
use Rattle.loes.specs.Held.{entry_held}
use Rattle.loes.specs.Calls.{pack_call}
use Rattle.loes.proofs.Reading.{encode_length}
use Rattle.loes.proofs.Writes.{writes_short, writes_fits}
use Rattle.build.specs.Writing.{HoldsOnly}
use Rattle.build.proofs.Sealing.{held_back, sealed_back}
use Rattle.pack.specs.Packing.{edge_tests}
use Rattle.pack.proofs.Valid.{batch_valid}
use Rattle.pack.proofs.Calls.{pack_accepted}

module _ (m b : ℕ) (l : Bytes) (accepted : first_of (edge_tests m l) ≡ none) (count : b ≡ edge_count (batch_entry m l)) where
  abbrev e : Entry
  e = batch_entry m l

  valid : Valid e
  valid = batch_valid m l accepted

  pub batch_small : (m ≤ max_width) × (b ≤ max_edges)
  unfolding batch_entry
  batch_small = (valid.narrow, omega (arith, count, valid.few))

  pub batch_sealed : HoldsOnly m b (pack_bits (edges_of e))
  unfolding batch_entry
  batch_sealed = rw count (sealed_back e valid)

  pub batch_held : entry_held m b (pack_bits (edges_of e)) ≡ e
  unfolding batch_entry
  batch_held = rw count (held_back e valid)

  pub batch_length : length (encode e) ≡ end_of m b
  unfolding batch_entry
  batch_length = rw count (encode_length e)

  module _ (out : Bytes) where
    pub call_short : length out < end_of m b → pack_call m l out ≡ (refusal short_buffer (out ∷ [])).outcome
    unfolding pack_call
    call_short h = ap (λ x. x.outcome) (pack_accepted m l out accepted ∙ writes_short e out valid.few (omega (arith, batch_length)))

    pub call_fits : end_of m b ≤ length out → pack_call m l out ≡ record { answer = wrote (end_of m b ∷ []); buffers = front (encode e) out ∷ [] }
    unfolding pack_call
    call_fits h =
        ap (λ x. x.outcome) (pack_accepted m l out accepted) ∙ writes_fits e out valid.few (omega (arith, batch_length))
        ∙ ap (λ n. record { answer = wrote (n ∷ []); buffers = front (encode e) out ∷ [] }) batch_length
