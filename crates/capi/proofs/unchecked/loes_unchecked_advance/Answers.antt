use Rattle.loes.specs.Cursor.{advance}
use Rattle.capi.proofs.Steps.{kept_on, walked_on}
use Rattle.capi.proofs.unchecked.loes_unchecked_advance.Goals as goal

pub returns-in-Some : goal.returns-in-Some
returns-in-Some c = walked_on advance c.opened-o.result _ c.opened-o.ensures _ _ _ c.in-Some.from _ _ c.in-Some.ensures c.step_any.ensures (c.from.ensures _ _)

pub returns-in-None : goal.returns-in-None
returns-in-None c = rw c.refused.ensures (kept_on advance c.opened-o.result _ c.opened-o.ensures _ _ _ c.in-None.ensures)
