use Rattle.cursor.proofs.Checks.{move_start, move_next, move_end}
use Rattle.cursor.proofs.move_on.Goals as goal

pub loop-d-init : goal.loop-d-init
loop-d-init c = move_start _ c.args.o.encoding.bits _ _ _ c.requires

pub loop-d-preserved : goal.loop-d-preserved
loop-d-preserved c = move_next _ c.args.o.encoding.bits _ _ _ c.requires _ _ c.loop-d.invariant c.loop-d-test.true _ c.next_offset-next.ensures

pub returns : goal.returns
returns c = move_end _ c.args.o.encoding.bits _ _ _ c.requires _ _ c.loop-d.invariant c.loop-d-test.false
