use Rattle.encoding.proofs.Answers.{rank_out, rank_told}
use Rattle.encoding.proofs.opening.Opened.rank.Goals as goal

pub returns-then-self-at : goal.returns-then-self-at
returns-then-self-at c = rank_out _ _ _ c.args.self.opens c.if-self-at.true

pub returns : goal.returns
returns c = rank_told _ _ _ _ c.args.self.opens c.if-self-at.false c.ones_before.ensures
