use mathlib.Core.Path.{ap}
use native.Mathlib.Omega.{arith}
use Rattle.records.specs.Records.{children}
use Rattle.restrict.proofs.Marking.{children_code}
use Rattle.divide.proofs.mark_record_for_three.Goals as goal

pub overflow_sub-d : goal.overflow_sub-d
overflow_sub-d c = omega (arith, c.requires.j_lt_r, ap children c.record_at-e.ensures.0, children_code c.record_at-e.result c.record_at-e.ensures.1)

pub returns-clause-result_value : goal.returns-clause-result_value
returns-clause-result_value c = omega (arith, ap children c.record_at-e.ensures.0, children_code c.record_at-e.result c.record_at-e.ensures.1)
