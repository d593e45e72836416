use mathlib.Core.Path.{◌≡◌}
use native.Mathlib.Omega.{arith}
use Rattle.pack.proofs.Agreeing.{same_behind, same_eight}
use Prim.Native.Nat.{◌*◌, ◌+◌}
use lib.ListN.{length}
use Rattle.pack.proofs.same_words.Goals as goal

pub returns-then-k-lt8 : goal.returns-then-k-lt8
returns-then-k-lt8 c =
    same_behind c.args.x.now c.args.y.now (length c.args.x.now) (8 * c.loop-j.j) c.same_in_word-k.result (omega arith) c.if-k-lt8.true c.loop-j.invariant c.same_in_word-k.ensures

pub loop-j-preserved : goal.loop-j-preserved
loop-j-preserved c =
    let z : 8 * (c.loop-j.j + 1) ≡ 8 * c.loop-j.j + 8 = omega arith in
    rw z (same_eight c.args.x.now c.args.y.now (8 * c.loop-j.j) c.same_in_word-k.result c.if-k-lt8.false c.loop-j.invariant c.same_in_word-k.ensures)
