use mathlib.Core.Path.{refl}
use native.Mathlib.Omega.{arith}
use Rattle.merge.proofs.Spreading.{block_ok}
use Rattle.merge.proofs.merge_block.Goals as goal

pub returns : goal.returns
returns c =
    let v = c.merge_eight-e.result in
    rw c.count.ensures (block_ok c.args.a.now c.args.b.now c.args.q.now c.append.new.out c.args.j c.args.at.a.0 c.args.at.b.0 c.args.at.tail.0 _ _
    c.window-x.result c.window-y.result v.high v.low v.flags.records v.flags.bits v.first v.second (omega (arith, c.requires.j_bound)) c.requires.j_bound.0 refl refl
    c.window-x.ensures c.window-y.ensures c.merge_eight-e.ensures c.append.ensures)
