use mathlib.Core.Path.{sym, ◌∙◌}
use Rattle.std.proofs.lemmas.Result.{err_from_is_err_and}
use Rattle.weights.proofs.Packs.{weighted_refused}
use Rattle.weights.proofs.pack_weighted.Goals as goal

pub returns-in_err-b : goal.returns-in_err-b
returns-in_err-b c =
    let p = err_from_is_err_and c.from_residual.result c.from_residual.ensures.1 in
    rw (p.1, p.2) (sym (weighted_refused c.args.m c.args.batch.now c.args.out.now c.args.list.now _ c.in_err-b.ensures))

pub write_packed-requires : goal.write_packed-requires
write_packed-requires c = (c.in_ok-b.ensures.0, c.in_ok-b.ensures.1, c.plan.auto.levels ∙ c.no_records-levels.ensures.long)
