-- The loop over the levels.
use mathlib.Core.Path.{◌≡◌, refl, sym, ap, ◌∙◌}
use Prim.Native.Nat.{ℕ, zero, suc, ◌+◌, ◌*◌, ◌≤◌, min}
use mathlib.Core.Bool.{Bool}
use mathlib.Core.List.{List}
use native.Mathlib.Omega.{arith}
use native.Mathlib.Decide.{dec_le}
use lib.ListN.{length}
use lib.Seq.{take_all}
use Rattle.loes.specs.Edges.{ones, rank}
use Rattle.loes.specs.Prefixes.{roots, ends}
use Rattle.loes.specs.Limits.{max_edges}
use Rattle.loes.specs.Bytes.{Bytes}
use Rattle.loes.proofs.Lists.{rank_le}
use Rattle.loes.proofs.Ends.{ends_grow}
use Rattle.encoding.specs.declared.Encoding.{Encoding}
use Rattle.encoding.specs.Opened.{edges_at}
use Rattle.encoding.proofs.Opened.{length_edges_at}

-- the end of level d, and the set bits before it
pub end_is : (c : ℕ) (e : List Bool) (d n : ℕ) → n ≡ rank e (ends c e d) → 2 * (c + n) ≡ ends c e (suc d)
unfolding ends
end_is c e d n h = ap (λ x. 2 * (c + x)) h

-- the levels of the empty set end where they begin
pub ends_none : (e : List Bool) (b d : ℕ) → b ≡ 0 → length e ≡ b → ends (roots b) e d ≡ 0
unfolding ends roots
ends_none e b zero z h = refl
ends_none e b (suc d) z h = let r : roots b ≡ 0 = rw z in omega (arith, r, (rank_le e (ends (roots b) e d)).1)

-- before level d: it begins at `start`, as far as there are edges, and n bits are set before `from`, where the level above begins
pub record Level (c : ℕ) (e : List Bool) (b d from start n : ℕ) : Type 0 where
  pub ordered : from ≤ start
  pub begins : start ≡ min (ends c e d) b
  pub count : n ≡ rank e from

pub level_first : (c : ℕ) (e : List Bool) (b : ℕ) → Level c e b 0 0 0 0
unfolding ends rank ones
level_first c e b = record { ordered = omega arith; begins = omega arith; count = refl }

-- behind the last edge nothing is set
pub stop_is : (e : List Bool) (end : ℕ) → rank e (min end (length e)) ≡ rank e end
unfolding rank
stop_is e end =
    elim (dec_le end (length e)) [
      | yes h ↦ let z : min end (length e) ≡ end = omega arith in rw z
      | no h ↦ ap ones (take_all (min end (length e)) e (omega arith) ∙ sym (take_all end e (omega arith)))
    ]

-- the set bits before level d
pub level_count : (c : ℕ) (e : List Bool) (b d from start n r : ℕ) → length e ≡ b → Level c e b d from start n → r ≡ rank e start → r ≡ rank e (ends c e d)
level_count c e b d from start n r z v h =
    let s : start ≡ min (ends c e d) (length e) = v.begins ∙ ap (min (ends c e d)) (sym z) in
    h ∙ ap (rank e) s ∙ stop_is e (ends c e d)

-- the end of level d, as the code makes it of the records so far, and the level behind it
module _ (l : Bytes) (e : Encoding) (d from start n r k : ℕ) (few : e.bits ≤ max_edges) (v : Level (roots e.bits) (edges_at l e) e.bits d from start n) (h : k ≡ rank (edges_at l e) start) (q : r ≡ roots e.bits) where
  counted : k ≡ rank (edges_at l e) (ends (roots e.bits) (edges_at l e) d)
  counted = level_count (roots e.bits) (edges_at l e) e.bits d from start n k (length_edges_at l e) v h

  pub end_few : k ≤ max_edges
  end_few = omega (arith, counted, (rank_le (edges_at l e) (ends (roots e.bits) (edges_at l e) d)).1, length_edges_at l e, few)

  pub end_here : 2 * (r + k) ≡ ends (roots e.bits) (edges_at l e) (suc d)
  end_here = ap (λ x. 2 * (x + k)) q ∙ end_is (roots e.bits) (edges_at l e) d k counted

  pub level_next : (end : ℕ) → end ≡ 2 * (r + k) → Level (roots e.bits) (edges_at l e) e.bits (d + 1) start (min end e.bits) k
  level_next end z =
      let y : suc d ≡ d + 1 = omega arith in
      let x : end ≡ ends (roots e.bits) (edges_at l e) (suc d) = z ∙ end_here in
      record {
        ordered = omega (arith, v.begins, x, ends_grow (roots e.bits) (edges_at l e) d);
        begins = ap (λ n. min n e.bits) (x ∙ ap (ends (roots e.bits) (edges_at l e)) y);
        count = h;
      }
