use mathlib.Core.Path.{subst, sym, ap₂}
use Prim.Native.Nat.{◌/◌}
use lib.ListN.{drop}
use lib.Bits.{bit_xor}
use lib.Count.{count_trailing_zeros}
use Rattle.bits.proofs.Words.{small_from}
use Rattle.pack.proofs.Agreeing.{word_same}
use Rattle.pack.specs.Batch.{SameBytes}
use Rattle.pack.proofs.same_in_word.Goals as goal

pub returns : goal.returns
returns c =
    let x = c.args.x.now in
    let y = c.args.y.now in
    let at = c.args.at in
    subst (λ z. SameBytes (drop at x) (drop at y) 8 (count_trailing_zeros 64 z / 8)) (sym (ap₂ bit_xor c.word-p.ensures c.word-q.ensures))
    (word_same (drop at x) (drop at y) 8 (small_from x at (λ i. (c.type_inv.x i).fits)) (small_from y at (λ i. (c.type_inv.y i).fits)))
