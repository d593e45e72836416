-- The six fields, as they are written, are the encoding of the entry that the edge bytes hold.
use mathlib.Core.Path.{◌≡◌, refl, sym, ap, ap₂, ◌∙◌}
use Prim.Native.Nat.{ℕ, zero, suc, ◌+◌, ◌/◌, ◌≤◌, ◌<◌}
use mathlib.Core.List.{List, ◌∷◌, ◌++◌, append_assoc, append-nil, flatten}
use native.Mathlib.Omega.{arith}
use lib.ListN.{length, get_or, length-append}
use Rattle.loes.specs.Limits.{max_edges, block_bits, sub_block_bits, head_bytes, width_bytes, count_bytes, level_entry, block_entry, sub_block_entry}
use Rattle.loes.specs.Bytes.{Bytes, started, big_endian, big_endians, pack_bits, bits_in}
use Rattle.loes.specs.Entry.{Entry, edge_count}
use Rattle.loes.specs.Encode.{field, block_ones, sub_block_ones, level_end, width_body, count_body, level_body, edge_body, block_body, sub_block_body, encode}
use Rattle.loes.specs.Read.{edge_bytes, block_bytes, sub_block_bytes, body_at, start4, entry_along, end_of}
use Rattle.loes.specs.Held.{entry_held}
use Rattle.loes.proofs.Bytes.{length_packed, length_big_endian, length_big_endians, field_length}
use Rattle.loes.proofs.Reading.{encode_length}
use Rattle.loes.proofs.Bits.{length_bits_in}
use Rattle.build.specs.Writing.{HoldsOnly, Shaped, shape, indexed}
use Rattle.build.proofs.Front.{field_is}
use Rattle.build.proofs.Shape.{held_bits}

pub big_endians_ext : (w : ℕ) (f g : ℕ → ℕ) (n : ℕ) → ((i : ℕ) → i < n → f i ≡ g i) → big_endians w f n ≡ big_endians w g n
unfolding big_endians
big_endians_ext w f g zero h = refl
big_endians_ext w f g (suc n) h = ap₂ (λ x y. x ++ big_endian w y) (big_endians_ext w f g n (λ i l. h i (omega arith))) (h n (omega arith))

pub shape_length : (b n : ℕ) (ends : List ℕ) → length (shape b n ends) ≡ body_at (start4 (length ends))
unfolding shape start4
shape_length b n ends = simp (length-append, field_length, length_big_endian, length_big_endians) (omega arith)

pub indexed_length : (b : ℕ) (l : Bytes) → length l ≡ edge_bytes b → length (indexed b l) ≡ edge_bytes b + head_bytes + block_bytes b + head_bytes + sub_block_bytes b
unfolding indexed
indexed_length b l h = simp (length-append, field_length, length_big_endians, h) (omega arith)

-- the edge bits alone tell how long an encoding is
pub held_length : (m b : ℕ) (l : Bytes) → edge_count (entry_held m b l) ≡ b → length (encode (entry_held m b l)) ≡ end_of m b
unfolding entry_held entry_along
held_length m b l h = encode_length (entry_held m b l) ∙ ap (end_of m) h

module _ (m b : ℕ) (l : Bytes) (s : HoldsOnly m b l) where
  pub sealed_length : length l ≡ started 8 b
  sealed_length = ap length (sym s.whole) ∙ length_packed (bits_in l b) ∙ ap (started 8) (length_bits_in l b)

  pub sealed_small : length l ≤ max_edges / 8
  unfolding started
  sealed_small = omega (arith, sealed_length, s.holds.few)

  pub held_encode : (ends : List ℕ) (n : ℕ) → length ends ≡ m → Shaped m b l ends n → shape b n ends ++ indexed b l ≡ encode (entry_held m b l)
  unfolding encode flatten shape indexed
  held_encode ends n size h =
      let e : Entry = entry_held m b l in
      let b1 : width_body e ≡ big_endian width_bytes m = unfold width_body entry_held entry_along in refl in
      let b2 : count_body e ≡ big_endian count_bytes n = unfold count_body in ap (big_endian count_bytes) (sym h.members) in
      let b3 : level_body e ≡ big_endians level_entry (λ (d : ℕ). get_or ends d 0) m =
      unfold level_body entry_held entry_along in big_endians_ext level_entry (level_end e) (λ (d : ℕ). get_or ends d 0) m (λ d q. sym (h.levels d q)) in
      let b4 : edge_body e ≡ l = unfold edge_body in ap pack_bits s.holds.same ∙ s.whole in
      let b5 : block_body e ≡ big_endians block_entry (block_ones (bits_in l b)) (started block_bits b) =
      unfold block_body in ap₂ (λ x k. big_endians block_entry (block_ones x) (started block_bits k)) s.holds.same (held_bits m b l s.holds) in
      let b6 : sub_block_body e ≡ big_endians sub_block_entry (sub_block_ones (bits_in l b)) (started sub_block_bits b) =
      unfold sub_block_body in ap₂ (λ x k. big_endians sub_block_entry (sub_block_ones x) (started sub_block_bits k)) s.holds.same (held_bits m b l s.holds) in
      let f4 : (4 ∷ big_endian 2 (edge_bytes b)) ++ l ≡ field 4 l = field_is 4 l (edge_bytes b) sealed_length in
      rw (b1, b2, b3, b4, b5, b6, append-nil, ← f4, size) (simp append_assoc)
