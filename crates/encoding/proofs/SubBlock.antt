-- The counting in a sub-block: the part of the last byte, the bytes behind the last whole word, the words.
use Rattle.std.proofs.Common.{◌≡◌, ℕ, ◌+◌, ◌-◌, ◌*◌, ◌/◌, ◌%◌, ◌≤◌, ◌<◌, drop, drop-drop, ap, sym, ◌∙◌, arith}
use lib.Count
use Rattle.loes.specs.Bytes.{Bytes, bits_in}
use Rattle.loes.specs.Edges.{ones}
use Rattle.bits.specs.Words.{word_in}
use Rattle.bits.proofs.Counts.{ones_at}
use Rattle.bits.proofs.Words.{Small, small_from, word_more, word_ones_le}
use Rattle.encoding.specs.Counting.{count_sub_block}

pub with_part : (block sub-block : ℕ) (edges : Bytes) (n part : ℕ) → 0 < n → part ≡ ones (bits_in (drop ((n - 1) / 8) edges) ((n - 1) % 8 + 1))
    → block + sub-block + part + ones (bits_in edges (8 * ((n - 1) / 8))) ≡ count_sub_block block sub-block edges n
unfolding count_sub_block
with_part block sub-block edges n part h e =
    let z : 8 * ((n - 1) / 8) + ((n - 1) % 8 + 1) ≡ n = omega arith in
    omega (arith, e, ones_at edges ((n - 1) / 8) ((n - 1) % 8 + 1) n z)

module _ (edges : Bytes) (last rest : ℕ) (s : Small edges) (e : rest ≡ word_in (drop (last - last % 8) edges) (last % 8)) where
  pub rest_few : Count.ones rest ≤ 64
  rest_few = omega (arith, ap Count.ones e, word_ones_le (drop (last - last % 8) edges) (last % 8) (small_from edges (last - last % 8) s))

  pub with_rest : ones (bits_in edges (64 * (last / 8))) + Count.ones rest ≡ ones (bits_in edges (8 * last))
  with_rest =
      let z : last - last % 8 + last % 8 ≡ last = omega arith in
      let y : 8 * (last - last % 8) ≡ 64 * (last / 8) = omega arith in
      omega (arith, ap Count.ones e, word_more edges (last - last % 8) (last % 8) s, ap (λ n. ones (bits_in edges (8 * n))) z, ap (λ n. ones (bits_in edges n)) y)

pub word_counted : (edges : Bytes) (i sum word found : ℕ) → sum ≡ found + ones (bits_in edges (64 * i)) → word ≡ ones (bits_in (drop (8 * i) edges) 64) → sum + word ≡ found + ones (bits_in edges (64 * (i + 1)))
word_counted edges i sum word found h e =
    let z : 8 * (8 * i) + 64 ≡ 64 * (i + 1) = omega arith in
    let y : 8 * (8 * i) ≡ 64 * i = omega arith in
    omega (arith, h, e, ones_at edges (8 * i) 64 (64 * (i + 1)) z, ap (λ n. ones (bits_in edges n)) y)

-- the bytes behind the last whole word of a part are those behind its words
pub part_is : (l : Bytes) (from upto : ℕ) {x : ℕ} → from ≤ upto → x ≡ word_in (drop (upto - (upto - from) % 8) l) ((upto - from) % 8)
    → x ≡ word_in (drop (8 * ((upto - from) / 8)) (drop from l)) ((upto - from) % 8)
part_is l from upto h e =
    let z : upto - (upto - from) % 8 ≡ from + 8 * ((upto - from) / 8) = omega arith in
    e ∙ ap (λ y. word_in y ((upto - from) % 8)) (ap (λ i. drop i l) z ∙ sym (drop-drop (8 * ((upto - from) / 8)) from l))
