use Rattle.std.proofs.Common.{arith, ◌∙◌, drop}
use Rattle.bits.proofs.Counts.{ones_bits_le, shift_small, part_ones}
use Rattle.bits.proofs.Table.{tallies}
use Rattle.bits.proofs.tally_part.Goals as goal

pub returns : goal.returns
returns c =
    let a = c.args in
    let s = (c.type_inv.l a.at).fits in
    let e = tallies.rule _ (shift_small _ _ s) ∙ part_ones a.l.now a.at a.k s c.requires.1 in
    (e, omega (arith, e, ones_bits_le (drop a.at a.l.now) a.k))
