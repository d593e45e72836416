use Rattle.records.proofs.Numbers.{window_ok}
use Rattle.records.proofs.window.Goals as goal

pub returns : goal.returns
returns c = window_ok c.args.l.now c.args.i.0 c.block.result c.block.ensures.0
