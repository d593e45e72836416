use mathlib.Core.Path.{◌∙◌}
use native.Mathlib.Omega.{arith}
use Rattle.merge.proofs.Single.{step_ok, flag_odd}
use Rattle.merge.proofs.merge_record.Goals as goal

pub record_if-x-requires : goal.record_if-x-requires
record_if-x-requires c = λ e. omega (arith, c.requires.a_bound ((flag_odd c.args.q.now c.args.i.0 c.record_at-f.result c.record_at-f.ensures.0).0 ∙ e))

pub record_if-y-requires : goal.record_if-y-requires
record_if-y-requires c = let f = c.record_at-f in
    λ e. omega (arith, c.requires.b_bound ((flag_odd c.args.q.now c.args.i.0 f.result f.ensures.0).1 ∙ e))

pub returns : goal.returns
returns c = step_ok c.args.a.now c.args.b.now c.args.q.now c.put_record.new.out c.push_children-tail.new.q
    c.args.i.0 c.args.at.a.0 c.args.at.b.0 c.args.at.tail.0 c.push_children-tail.result.0 c.record_at-f.result c.record_if-x.result c.record_if-y.result c.either_record-z.result
    c.requires.i_lt_tail.0 c.record_at-f.ensures.0 c.record_if-x.ensures.0 c.record_if-y.ensures.0 c.either_record-z.ensures.0 c.put_record.ensures c.push_children-tail.ensures
