-- The level ends and the count of the entry that edge bytes hold.
use mathlib.Core.Path.{◌≡◌, refl, sym, ap, ap₂, ◌∙◌}
use Prim.Native.Nat.{ℕ, zero, suc, ◌+◌, ◌-◌, ◌*◌, ◌/◌, ◌%◌, ◌≤◌, ◌<◌}
use mathlib.Core.Bool.{Bool, true, false}
use mathlib.Core.List.{List, [], ◌∷◌}
use native.Mathlib.Omega.{arith}
use lib.ListN.{length, take}
use lib.Seq.{take_all}
use lib.Dec.{ltb}
use Rattle.loes.specs.Limits.{block_bits, sub_block_bits}
use Rattle.loes.specs.Bytes.{Bytes, bits_in}
use Rattle.loes.specs.Edges.{ones, rank}
use Rattle.loes.specs.Prefixes.{prefix_count, roots, ends}
use Rattle.loes.specs.Entry.{keys_of, count, edges_of, edge_count}
use Rattle.loes.specs.Encode.{block_ones, level_end}
use Rattle.loes.specs.Read.{entry_along}
use Rattle.loes.specs.Held.{entry_held, Holds}
use Rattle.loes.proofs.Tree.{bit_le}
use Rattle.loes.proofs.Ends.{ends_set, roots_set, count_set}
use Rattle.loes.proofs.Reading.{level_end_last}
use Rattle.loes.proofs.Seven.{level_le}
use Rattle.loes.proofs.Bits.{length_bits_in}
use Rattle.bits.proofs.Counts.{rank_bits}

rank_most : (e : List Bool) (n : ℕ) → rank e n ≤ ones e
unfolding rank ones
rank_most e zero = omega arith
rank_most [] (suc n) = omega arith
rank_most (true ∷ e) (suc n) = omega (arith, rank_most e n)
rank_most (false ∷ e) (suc n) = rank_most e n

pub roots_le : (b : ℕ) → roots b ≤ 1
unfolding roots
roots_le b = bit_le (ltb 0 b)

module _ (m b : ℕ) (l : Bytes) (h : Holds m b l) where
  pub held_bits : edge_count (entry_held m b l) ≡ b
  unfolding edge_count
  held_bits = ap length h.same ∙ length_bits_in l b

  held_roots : prefix_count 0 m (entry_held m b l).set ≡ roots b
  unfolding edge_count edges_of entry_held entry_along
  held_roots = roots_set m (entry_held m b l).set h.positive ∙ ap roots held_bits

  pub held_ends : (d : ℕ) → d < m → level_end (entry_held m b l) d ≡ ends (roots b) (bits_in l b) (suc d)
  unfolding level_end edges_of entry_held entry_along
  held_ends d q = ends_set (suc d) m (entry_held m b l).set q ∙ ap₂ (λ c e. ends c e (suc d)) held_roots h.same

  -- no level ends behind the last
  pub ends_le : (d : ℕ) → d < m → ends (roots b) (bits_in l b) (suc d) ≤ b
  unfolding entry_held entry_along
  ends_le d q = omega (arith, held_ends d q, level_le (entry_held m b l) d q, held_bits)

  pub ends_last : ends (roots b) (bits_in l b) m ≡ b
  unfolding entry_held entry_along
  ends_last =
      let z : suc (m - 1) ≡ m = omega (arith, h.positive) in
      ap (ends (roots b) (bits_in l b)) (sym z) ∙ sym (held_ends (m - 1) (omega (arith, h.positive))) ∙ level_end_last (entry_held m b l) h.positive ∙ held_bits

  all_ones : (n : ℕ) → n ≡ rank (bits_in l b) (ends (roots b) (bits_in l b) m) → n ≡ ones (bits_in l b)
  unfolding rank
  all_ones n q = q ∙ ap (λ k. ones (take k (bits_in l b))) ends_last ∙ ap ones (take_all b (bits_in l b) (omega (arith, length_bits_in l b)))

  -- all set bits and the roots are more than the records
  pub enough : (n : ℕ) → n ≡ rank (bits_in l b) (ends (roots b) (bits_in l b) m) → b / 2 ≤ roots b + n
  unfolding ends
  enough n q = go m refl h.positive
    where
      go : (k : ℕ) → m ≡ k → 0 < k → b / 2 ≤ roots b + n
      go zero z p = absurd (omega arith)
      go (suc k) z p =
          let e : ends (roots b) (bits_in l b) (suc k) ≡ b = ap (ends (roots b) (bits_in l b)) (sym z) ∙ ends_last in
          unfold ends in omega (arith, e, all_ones n q, rank_most (bits_in l b) (ends (roots b) (bits_in l b) k))

  pub held_count : (n : ℕ) → n ≡ rank (bits_in l b) (ends (roots b) (bits_in l b) m) → roots b + n - b / 2 ≡ count (entry_held m b l)
  unfolding count keys_of edge_count edges_of entry_held entry_along
  held_count n q =
      ap₂ (λ c k. c + k - b / 2) (sym held_roots) (all_ones n q ∙ ap ones (sym h.same)) ∙ ap (λ k. prefix_count 0 m (entry_held m b l).set + ones (edges_of (entry_held m b l)) - k / 2) (sym held_bits)
      ∙ sym (count_set m (entry_held m b l).set)

-- ---- The index entries
-- set bits of whole bytes before block j, and before sub-block j
pub block_value : (l : Bytes) (b j n : ℕ) → n ≡ 8192 * j → block_bits * j ≤ b → ones (bits_in l (8 * n)) ≡ block_ones (bits_in l b) j
unfolding block_ones
block_value l b j n e h = let z : 8 * n ≡ block_bits * j = omega arith in ap (λ k. ones (bits_in l k)) z ∙ sym (rank_bits l b (block_bits * j) h)

pub rank_value : (l : Bytes) (b j n : ℕ) → n ≡ 64 * j → sub_block_bits * j ≤ b → ones (bits_in l (8 * n)) ≡ rank (bits_in l b) (sub_block_bits * j)
rank_value l b j n e h = let z : 8 * n ≡ sub_block_bits * j = omega arith in ap (λ k. ones (bits_in l k)) z ∙ sym (rank_bits l b (sub_block_bits * j) h)

-- the count of a block is that of its first sub-block
pub first_sub : (e : List Bool) (j : ℕ) → j % 128 ≡ 0 → rank e (sub_block_bits * j) ≡ block_ones e (j / 128)
unfolding block_ones
first_sub e j h = let z : sub_block_bits * j ≡ block_bits * (j / 128) = omega arith in ap (rank e) z
