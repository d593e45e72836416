use Rattle.encoding.proofs.Opened.{opens_valid}
use Rattle.cursor.proofs.Filling.{walk_none, walk_begun, walk_whole}
use Rattle.cursor.proofs.walk_right.Goals as goal

pub returns-then-n-eq0 : goal.returns-then-n-eq0
returns-then-n-eq0 c = walk_none _ _ c.requires _ c.step_right-walked.result _ _ c.step_right-walked.ensures _ c.unwrap_or-n.ensures c.if-n-eq0.true

pub steps_on-requires : goal.steps_on-requires
steps_on-requires c = let z = walk_begun _ _ c.requires _ c.step_right-walked.result _ _ c.step_right-walked.ensures _ c.unwrap_or-n.ensures c.if-n-eq0.false (opens_valid _ _ c.args.o.opens) in
    (z.0, z.1)

pub returns : goal.returns
returns c = walk_whole _ _ c.requires _ c.step_right-walked.result _ _ c.step_right-walked.ensures _ c.unwrap_or-n.ensures c.if-n-eq0.false _ c.steps_on.ensures
