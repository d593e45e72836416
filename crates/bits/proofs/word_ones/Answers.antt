use mathlib.Core.Path.{◌≡◌, ap, ◌∙◌}
use native.Mathlib.Omega.{arith}
use lib.ListN.{drop}
use lib.Count
use Rattle.loes.specs.Bytes.{bits_in}
use Rattle.loes.specs.Edges.{ones}
use Rattle.bits.proofs.Counts.{ones_bits_le}
use Rattle.bits.proofs.Words.{small_from, word_ones}
use Rattle.bits.proofs.word_ones.Goals as goal

pub overflow_cast-result : goal.overflow_cast-result
overflow_cast-result c =
    let counted : let a = c.args in Count.ones c.word.result ≡ ones (bits_in (drop a.at a.l.now) 64) = let a = c.args in
    ap Count.ones c.word.ensures ∙ word_ones (drop a.at a.l.now) 8 (small_from a.l.now a.at (λ i. (c.shared_slice_known-1.given i).fits)) in
    let a = c.args in omega (arith, counted, ones_bits_le (drop a.at a.l.now) 64)

pub returns : goal.returns
returns c =
    let counted : let a = c.args in Count.ones c.word.result ≡ ones (bits_in (drop a.at a.l.now) 64) = let a = c.args in
    ap Count.ones c.word.ensures ∙ word_ones (drop a.at a.l.now) 8 (small_from a.l.now a.at (λ i. (c.shared_slice_known-1.given i).fits)) in
    counted
