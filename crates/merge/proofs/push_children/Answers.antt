use Rattle.merge.proofs.Single.{push_both}
use Rattle.merge.proofs.push_children.Goals as goal

pub returns : goal.returns
returns c = push_both c.args.q.now c.push-t.new.out c.push.new.out c.args.n.0 c.push-t.result.0 c.push.result.0 c.args.x c.args.y c.requires.1
    c.push-t.ensures c.push.ensures
