-- Records of a front and of what is behind it.
use mathlib.Core.Path.{◌≡◌, refl, sym, ap, ◌∙◌}
use Prim.Native.Nat.{ℕ, zero, suc, ◌+◌, ◌*◌}
use mathlib.Core.Bool.{Bool, ◌&&◌, ◌||◌, and_assoc}
use mathlib.Core.List.{List, [], ◌∷◌, ◌++◌}
use native.Mathlib.Omega.{arith}
use lib.ListN.{length, drop}
use Rattle.loes.specs.Bytes.{Bytes, bits_in}
use Rattle.loes.proofs.Bits.{length_bits_in}
use Rattle.bits.specs.Tables.{none_empty}
use Rattle.bits.proofs.Counts.{bits_more}

pub none_empty_append : (r : ℕ) (a b : List Bool) → length a ≡ 2 * r → none_empty (a ++ b) ≡ (none_empty a && none_empty b)
unfolding none_empty
none_empty_append r [] b h = refl
none_empty_append r (x ∷ []) b h = absurd (omega arith)
none_empty_append zero (x ∷ y ∷ a) b h = absurd (omega arith)
none_empty_append (suc r) (x ∷ y ∷ a) b h = rw (none_empty_append r a b (omega arith)) (sym (and_assoc (x || y) (none_empty a) (none_empty b)))

pub full_more : (l : Bytes) (i n : ℕ) → none_empty (bits_in l (8 * i + n)) ≡ (none_empty (bits_in l (8 * i)) && none_empty (bits_in (drop i l) n))
full_more l i n = ap none_empty (bits_more l i n) ∙ none_empty_append (4 * i) (bits_in l (8 * i)) (bits_in (drop i l) n) (omega (arith, length_bits_in l (8 * i)))
