-- The packed edges of a valid entry hold it, and nothing besides.
use mathlib.Core.Path.{◌≡◌, sym, ap, ◌∙◌}
use Prim.Native.Nat.{◌*◌, ◌≤◌}
use native.Mathlib.Omega.{arith}
use lib.ListN.{length}
use Rattle.loes.specs.Bytes.{Bytes, started, pack_bits, bits_in}
use Rattle.loes.specs.Entry.{Entry, edges_of, edge_count, Valid}
use Rattle.loes.specs.Held.{entry_held}
use Rattle.loes.proofs.Bits.{bits_packed}
use Rattle.loes.proofs.Bytes.{length_packed}
use Rattle.loes.proofs.Reading.{along_edges}
use Rattle.build.specs.Writing.{HoldsOnly}

module _ (e : Entry) (v : Valid e) where
  abbrev edges : Bytes
  edges = pack_bits (edges_of e)

  bits_back : bits_in edges (edge_count e) ≡ edges_of e
  unfolding edge_count
  bits_back = bits_packed (edges_of e)

  pub held_back : entry_held e.width (edge_count e) edges ≡ e
  unfolding entry_held
  held_back = rw bits_back (along_edges e v)

  room : edge_count e ≤ 8 * length edges
  unfolding edge_count started
  room = omega (arith, length_packed (edges_of e))

  pub sealed_back : HoldsOnly e.width (edge_count e) edges
  sealed_back =
      record {
        holds = record { positive = v.positive; narrow = v.narrow; few = v.few; room = room; same = ap edges_of held_back ∙ sym bits_back };
        whole = ap pack_bits bits_back;
      }
