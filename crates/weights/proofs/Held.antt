-- What a join hands to its writer: edges in the queue, with flags behind them or sealed, and the tests of 5 and 14 of the entry that they hold.
use mathlib.Core.Path.{◌≡◌, refl, sym, ap, ◌∙◌}
use mathlib.Core.Bool.{true, false}
use mathlib.Core.List.{[], ◌∷◌}
use mathlib.Core.Option.{none, some}
use native.Mathlib.Omega.{arith}
use Rattle.loes.specs.Limits.{max_edges}
use Rattle.loes.specs.Entry.{Entry}
use Rattle.loes.specs.Encode.{encode}
use Rattle.loes.specs.Read.{end_of}
use Rattle.loes.specs.Refusals.{short_buffer, Tests, first_of}
use Rattle.loes.specs.Model.{refused, wrote}
use Rattle.build.proofs.Fields.{held_length}
use Rattle.weights.specs.Weights.{Weights, leaving, writes_with}
use Rattle.weights.proofs.Writes.{writes_short, writes_last, writes_fits, wrote_same}
use Prim.Native.Nat.{ℕ, ◌*◌, ◌/◌, ◌≤◌}
use mathlib.Core.Bool.{Bool, ◌||◌}
use mathlib.Core.List.{List, ◌++◌}
use lib.ListN.{length, drop}
use lib.Dec.{ltb}
use Rattle.loes.specs.Limits.{max_width}
use Rattle.loes.specs.Bytes.{Bytes, pack_bits, bits_in, front}
use Rattle.loes.specs.Entry.{edges_of, edge_count}
use Rattle.loes.specs.Read.{entry_along}
use Rattle.loes.specs.Held.{entry_held}
use Rattle.loes.proofs.Bits.{length_bits_in}
use Rattle.records.specs.Records.{Sealed, Packed}
use Rattle.records.proofs.Sealing.{written, written_bits, written_room}
use Rattle.merge.proofs.Queue.{even_edges}
use Rattle.join.specs.Joining.{Joined}
use Rattle.weights.specs.Lists.{Flagged}

-- a part written whole, and what is behind it
pub part_front : {A : Type 0} (n : ℕ) (new l : List A) → length new ≡ n → new ++ drop n l ≡ front new l
unfolding front
part_front n new l h = rw h

-- ---- 14: whether a buffer is too short for an encoding of width m with k edge bits, or a list for n entries
-- what it says of an entry that k edge bits hold, not too many, and of its list
module _ (m k : ℕ) (edges : Bytes) (bits : edge_count (entry_held m k edges) ≡ k) (few : k ≤ max_edges) (l : Weights) (n : ℕ) (size : length l ≡ n) (out : Bytes) (ws : Weights) (last : Tests) where
  abbrev held : Entry
  held = entry_held m k edges

  abbrev short : Bool
  short = ltb (length out) (end_of m k) || ltb (length ws) n

  end : length (encode held) ≡ end_of m k
  end = held_length m k edges bits

  fine : edge_count held ≤ max_edges
  fine = omega (arith, bits, few)

  short_is : (b : Bool) → short ≡ b → (ltb (length out) (length (encode held)) || ltb (length ws) (length l)) ≡ b
  short_is b h = rw (end, size) h

  pub told_short : short ≡ true → writes_with [] last held l out ws ≡ leaving (refused short_buffer) (out ∷ []) ws
  told_short h = writes_short last held l out ws fine (short_is true h)

  module _ (room : short ≡ false) where
    pub told_last : (j : ℕ) → first_of last ≡ some j → writes_with [] last held l out ws ≡ leaving (refused j) (out ∷ []) ws
    told_last = writes_last last held l out ws fine (short_is false room)

    pub told_written : (s : ℕ) (new : Bytes) (list : Weights) → first_of last ≡ none → s ≡ end_of m k → new ≡ front (encode held) out → list ≡ l
        → leaving (wrote (s ∷ [])) (new ∷ []) (list ++ drop n ws) ≡ writes_with [] last held l out ws
    told_written s new list h x y z =
        wrote_same (x ∙ sym end) y (ap (λ v. v ++ drop n ws) z ∙ part_front n l ws size) ∙ sym (writes_fits last held l out ws fine (short_is false room) h)

-- ---- Edges with flags behind them
module _ {m k n : ℕ} {q : Bytes} (h : Flagged m k n q) where
  pub flagged_bits : edge_count (entry_held m k q) ≡ k
  unfolding edge_count
  flagged_bits = ap length h.same ∙ length_bits_in q k

  even : 2 * (k / 2) ≡ k
  even =
      let z : length (edges_of (entry_held m k q)) ≡ k = ap length h.same ∙ length_bits_in q k in
      rw z at (even_edges (entry_held m k q))

  -- sealed: the same entry, and nothing besides
  module _ {p : Bytes} (s : Sealed (k / 2) q p) where
    packed : Packed (bits_in q k) q p k
    packed = rw even at (written {k = k / 2} {o = q} {x = q} (ap (bits_in q) even) refl s)

    pub sealed_held : entry_held m k p ≡ entry_held m k q
    unfolding entry_held
    sealed_held = ap (entry_along m) (written_bits packed)

    pub sealed_joined : m ≤ max_width → Joined m k p
    sealed_joined narrow =
        record {
          positive = h.positive;
          narrow = narrow;
          room = written_room packed;
          same = ap edges_of sealed_held ∙ h.same ∙ sym (written_bits packed);
          whole = packed.bytes ∙ ap pack_bits (sym (written_bits packed));
        }
