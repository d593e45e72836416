use mathlib.Core.Path.{◌∙◌}
use Prim.Native.Nat.{◌+◌, ◌-◌, ◌*◌, ◌<◌}
use native.Mathlib.Omega.{arith}
use lib.ListN.{length}
use Rattle.query.proofs.Select.{in_words, next_word, ones_mono}
use Rattle.query.proofs.find_from.Goals as goal

pub word_ones-ones-requires : goal.word_ones-ones-requires
word_ones-ones-requires c = omega (arith, in_words c.args.edges.now c.loop-at.at.byte c.loop-at.at.number (omega (arith, c.loop-at.invariant, c.requires.1)))

pub find_in_bytes-requires : goal.find_in_bytes-requires
find_in_bytes-requires c = let d = c.args.edges.now in
    (c.requires.0, omega (arith, c.loop-at.invariant, c.requires.1, ones_mono d (8 * (length d - 8)) (8 * length d) (omega arith)))

pub overflow_add-at : goal.overflow_add-at
overflow_add-at c = omega (arith, in_words c.args.edges.now c.loop-at.at.byte c.loop-at.at.number (omega (arith, c.loop-at.invariant, c.requires.1)), c.requires.0)

pub loop-at-smaller : goal.loop-at-smaller
loop-at-smaller c =
    let z : c.loop-at.at.byte + 8 < length c.args.edges.now = in_words c.args.edges.now c.loop-at.at.byte c.loop-at.at.number (omega (arith, c.loop-at.invariant, c.requires.1)) in
    omega (arith, z)

pub loop-at-preserved : goal.loop-at-preserved
loop-at-preserved c = next_word c.args.edges.now c.loop-at.at.byte c.loop-at.at.number c.word_ones-ones.result c.word_ones-ones.ensures c.if-at-ones.false ∙ c.loop-at.invariant
