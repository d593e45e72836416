use native.Mathlib.Omega.{arith}
use Rattle.loes.specs.Read.{end_of}
use Rattle.loes.proofs.Lent.{end_most}
use Rattle.encoding.proofs.end_of.Goals as goal

pub overflow_add-result : goal.overflow_add-result
unfolding end_of
overflow_add-result c = omega (arith, c.requires.0.sub_blocks, c.started_by.ensures.0, end_most c.args.e.width c.args.e.bits c.requires.1 c.requires.2)

pub returns : goal.returns
unfolding end_of
returns c = omega (arith, c.requires.0.sub_blocks, c.started_by.ensures.0)
