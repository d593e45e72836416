use mathlib.Core.Path.{refl, sym, ap, ◌∙◌}
use Rattle.std.proofs.lemmas.Result.{err_from_is_err_and}
use Rattle.join.proofs.Joins.{sized_rooms_serve}
use Rattle.weights.specs.Answers.{weighted_call}
use Rattle.weights.proofs.Joins.{call_refused, union_opened, difference_opened}
use Rattle.weights.proofs.join_in.Goals as goal

pub returns-in_err-pair : goal.returns-in_err-pair
returns-in_err-pair g c =
    let p = err_from_is_err_and c.from_residual.result c.from_residual.ensures.1 in
    rw (p.1, p.2) (sym (call_refused c.args.kind c.args.a.now c.args.b.now _ c.in_err-pair.ensures c.args.wa.now c.args.wb.now c.args.out.now c.args.list.now))

pub unite-requires : goal.unite-requires
unite-requires g c = (sized_rooms_serve g.row.N g.row.QUEUE g.row.EDGES c.in_ok-pair.pair _ _ _ _ c.in_ok-pair.ensures.0 c.in_ok-pair.ensures.1 refl refl c.requires).0

pub subtract-requires : goal.subtract-requires
subtract-requires g c = sized_rooms_serve g.row.N g.row.QUEUE g.row.EDGES c.in_ok-pair.pair _ _ _ _ c.in_ok-pair.ensures.0 c.in_ok-pair.ensures.1 refl refl c.requires

pub returns-in-Union : goal.returns-in-Union
returns-in-Union g c =
    c.unite.ensures
    ∙ union_opened c.in_ok-pair.pair c.args.a.now c.args.b.now c.in_ok-pair.ensures.0 c.in_ok-pair.ensures.1 c.args.wa.now c.args.wb.now c.args.out.now c.args.list.now
    ∙ ap (λ x. weighted_call x c.args.a.now c.args.wa.now c.args.b.now c.args.wb.now c.args.out.now c.args.list.now) (sym c.in-Union.is)

pub returns-in-Difference : goal.returns-in-Difference
returns-in-Difference g c =
    c.subtract.ensures
    ∙ difference_opened c.in_ok-pair.pair c.args.a.now c.args.b.now c.in_ok-pair.ensures.0 c.in_ok-pair.ensures.1 c.args.wa.now c.args.wb.now c.args.out.now c.args.list.now
    ∙ ap (λ x. weighted_call x c.args.a.now c.args.wa.now c.args.b.now c.args.wb.now c.args.out.now c.args.list.now) (sym c.in-Difference.is)
