use Rattle.loes.specs.Read.{entry_in}
use Rattle.loes.specs.Cursor.{padded}
use Rattle.loes.proofs.Cursors.{right_before}
use Rattle.cursor.proofs.Stepping.{after_stays, state_right, step_in}
use Rattle.cursor.proofs.step_right.Goals as goal

pub step_before-requires : goal.step_before-requires
unfolding padded
step_before-requires c = (right_before (entry_in c.args.o.bytes.now) _ (state_right (entry_in c.args.o.bytes.now) _ _ _ c.in-Before.is c.requires))

pub returns-in-After : goal.returns-in-After
returns-in-After c = let t = c.in-After.is in step_in _ _ _ _ _ _ t (after_stays _ _ _ (state_right _ _ _ _ t c.requires))
