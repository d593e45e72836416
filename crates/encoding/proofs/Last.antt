-- The last byte, if it is not whole.
use mathlib.Core.Path.{◌≡◌, sym, ap, ◌∙◌}
use Prim.Native.Nat.{ℕ, ◌+◌, ◌-◌, ◌/◌, ◌%◌, ◌^◌, ◌<◌}
use native.Mathlib.Omega.{arith}
use lib.ListN.{drop, get_or}
use lib.Seq.{get_or-drop}
use lib.Dec.{eqb}
use lib.Bits.{bit_and, bit_or}
use lib.Count
use Rattle.loes.specs.Bytes.{Bytes, tabulate, bits_in}
use Rattle.loes.specs.Edges.{ones}
use Rattle.loes.proofs.Tests.{yes_eq}
use Rattle.bits.specs.Tables.{none_empty}
use Rattle.bits.proofs.Counts.{byte_bits}
use Rattle.bits.proofs.Part.{front_bits, front_ones, front_full}
use Rattle.encoding.specs.declared.Encoding.{Encoding}
use Rattle.encoding.specs.Agree.{last_edges, LastRight}

module _ (l : Bytes) (e : Encoding) where
  -- the last byte, and its bits that are used
  abbrev pub last_byte : ℕ
  last_byte = get_or l (e.edges + e.bits / 8) 0

  abbrev pub used : ℕ
  used = e.bits % 8

  byte_is : get_or (drop e.edges l) (e.bits / 8) 0 ≡ last_byte
  byte_is = get_or-drop e.edges l (e.bits / 8) 0

  edges_are : bits_in (last_edges l e) used ≡ front_bits last_byte used
  unfolding last_edges front_bits
  edges_are = rw (← byte_is) (byte_bits (drop e.edges l) (e.bits / 8) used (omega arith))

  pub last_none : used ≡ 0 → LastRight l e × (0 ≡ ones (bits_in (last_edges l e) used))
  unfolding bits_in tabulate none_empty ones
  last_none z = ((λ p. absurd (omega arith), rw z), rw z)

  pub last_set : 0 < used → (last_byte % 2 ^ (8 - used) ≡ 0 → ⊥) → LastRight l e → ⊥
  last_set p h w = h (rw byte_is at (w.0 p))

  -- u is what the lowest of the used bits counts, and the left-over bits are clear
  module _ (u : ℕ) (unit : u ≡ 2 ^ (8 - used)) (small : last_byte < 256) (clear : last_byte % u ≡ 0) where
    -- the byte with its left-over bits set
    abbrev pub filled : ℕ
    filled = last_byte + (u - 1)

    clear_here : last_byte % 2 ^ (8 - used) ≡ 0
    clear_here = rw unit at clear

    full_is : eqb (bit_and 85 (bit_or filled (filled / 2))) 85 ≡ none_empty (bits_in (last_edges l e) used)
    full_is = rw (unit, edges_are) (front_full last_byte used small (omega arith) clear_here)

    pub last_empty : (bit_and 85 (bit_or filled (filled / 2)) ≡ 85 → ⊥) → LastRight l e → ⊥
    last_empty h w = h (yes_eq (bit_and 85 (bit_or filled (filled / 2))) 85 (full_is ∙ w.1))

    pub last_full : bit_and 85 (bit_or filled (filled / 2)) ≡ 85 → LastRight l e × (Count.ones last_byte ≡ ones (bits_in (last_edges l e) used))
    last_full h = ((λ p. rw byte_is clear_here, sym full_is ∙ ap (λ v. eqb v 85) h), rw edges_are (front_ones last_byte used small (omega arith) clear_here))
