use mathlib.Core.Path.{◌≡◌, ap, ◌∙◌}
use Prim.Native.Nat.{ℕ, ◌+◌, ◌-◌, ◌*◌, ◌/◌, ◌%◌, ◌^◌, ◌≤◌, ◌<◌}
use native.Mathlib.Omega.{arith}
use lib.ListN.{get_or}
use Rattle.loes.specs.Bytes.{bit, bit_at}
use Rattle.loes.proofs.Tree.{bit_le}
use Rattle.pack.proofs.SetBits.{bits_four}
use Rattle.pack.specs.Batch.{key_at, row_offset}
use Rattle.pack.specs.declared.batch.Batch.{Batch}
use Rattle.pack.specs.declared.TheConstants.{MASKS}
use Rattle.pack.proofs.Masks.{masks}
use Rattle.pack.proofs.mark_four.Goals as goal

-- the masks of four edges in a byte
module _ (batch : Batch) (e first i : ℕ) (whole : (first + i) % 4 ≡ 0) where
  abbrev b : ℕ → ℕ
  b j = bit (bit_at (key_at batch j) e)

  low : (j : ℕ) → b j ≤ 1
  low j = bit_le (bit_at (key_at batch j) e)

  abbrev o : ℕ → ℕ
  o = row_offset batch e first

  byte_is : (j : ℕ) → j < 4 → o (i + j) / 8 ≡ (first + i) / 4
  unfolding row_offset
  byte_is j h = omega (arith, low (i + j), whole)

  mask_is : (j v : ℕ) → j < 4 → v ≡ b (i + j) → get_or MASKS (2 * j + v) 0 ≡ 2 ^ (7 - o (i + j) % 8)
  unfolding row_offset
  mask_is j v h q =
      let z : o (i + j) % 8 ≡ 2 * j + v = unfold row_offset in omega (arith, low (i + j), whole, q) in
      masks.rule (2 * j + v) (omega (arith, low (i + j), q)) ∙ rw z

  first_is : (v : ℕ) → v ≡ b i → get_or MASKS v 0 ≡ 2 ^ (7 - o (i + 0) % 8)
  first_is v q =
      let z : i + 0 ≡ i = omega arith in
      let y : v ≡ 2 * 0 + v = omega arith in
      ap (λ x. get_or MASKS x 0) y ∙ mask_is 0 v (omega arith) (rw z q)

pub returns : goal.returns
returns c =
    let a = c.args in
    let whole = c.requires.1 in
    let at : ℕ = (a.first.0 + a.i) / 4 in
    bits_four at a.edges.now (omega (arith, c.requires.0.fit)) (row_offset a.batch a.e a.first.0) a.i _ _ _ _ (byte_is a.batch a.e a.first.0 a.i whole)
    (first_is a.batch a.e a.first.0 a.i whole c.bit-p.result c.bit-p.ensures)
    (mask_is a.batch a.e a.first.0 a.i whole 1 c.bit-q.result (omega arith) c.bit-q.ensures)
    (mask_is a.batch a.e a.first.0 a.i whole 2 c.bit-r.result (omega arith) c.bit-r.ensures)
    (mask_is a.batch a.e a.first.0 a.i whole 3 c.bit-s.result (omega arith) c.bit-s.ensures)
