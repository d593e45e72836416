use Rattle.bits.specs.Words.{mask}
use Rattle.encoding.proofs.scan_sub_block.Goals as goal

pub returns-then-p-ne-RECORDS : goal.returns-then-p-ne-RECORDS
unfolding mask
returns-then-p-ne-RECORDS c = λ e. c.if-p-ne-RECORDS.true (c.scan_words-p.ensures.bad e)

pub returns : goal.returns
unfolding mask
returns c = let d = c.scan_words-p in (d.ensures.good c.if-p-ne-RECORDS.false, d.ensures.count)
