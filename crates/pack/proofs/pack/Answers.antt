use mathlib.Core.Path.{sym, ap, ◌∙◌}
use Rattle.loes.specs.Model.{refusal}
use Rattle.loes.specs.Calls.{pack_call}
use Rattle.build.specs.Writing.{written_outcome}
use Rattle.pack.proofs.Calls.{pack_refused}
use Rattle.std.proofs.lemmas.Result.{err_from_is_err_and}
use Rattle.loes.specs.Numbers.{number_of}
use Rattle.build.specs.Writing.{written_outcome}
use Rattle.pack.proofs.pack.Goals as goal

pub write_planned-requires : goal.write_planned-requires
write_planned-requires c = (c.in_ok-b.ensures.0, c.in_ok-b.ensures.1, c.plan.auto.levels ∙ c.no_records-levels.ensures.long)

pub returns-in_err-b : goal.returns-in_err-b
unfolding written_outcome refusal pack_call
returns-in_err-b c =
    let p = err_from_is_err_and c.from_residual.result c.from_residual.ensures.1 in
    rw (p.1, p.2) (ap (λ x. x.outcome) (sym (pack_refused c.args.m c.args.batch.now c.args.out.now (number_of c.in_err-b.field-0.0) c.in_err-b.ensures)))
