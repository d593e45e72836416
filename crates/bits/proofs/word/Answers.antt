use Rattle.std.proofs.Common.{arith, ◌≡◌, ◌+◌, drop, get_or, ap, ◌∙◌}
use Rattle.std.proofs.Math.Seq.{get_or-drop}
use Rattle.bits.specs.Words.{word_in}
use Rattle.bits.proofs.word.Goals as goal

pub returns : goal.returns
unfolding word_in
returns c =
    let l = c.args.l.now in
    let a = c.args.at in
    let z : a + 0 ≡ a = omega arith in
    let first : get_or (drop a l) 0 0 ≡ get_or l a 0 = get_or-drop a l 0 0 ∙ ap (λ i. get_or l i 0) z in
    omega (arith, c.from_le_bytes.ensures, first, get_or-drop a l 1 0, get_or-drop a l 2 0, get_or-drop a l 3 0, get_or-drop a l 4 0, get_or-drop a l 5 0, get_or-drop a l 6 0, get_or-drop a l 7 0)
