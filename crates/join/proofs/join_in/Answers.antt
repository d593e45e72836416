use mathlib.Core.Path.{sym, ◌∙◌}
use Rattle.std.proofs.lemmas.Result.{err_from_is_err_and}
use Rattle.loes.specs.Model.{refusal}
use Rattle.build.specs.Writing.{written_outcome}
use Rattle.join.specs.declared.Join.TheVariants.{Union, Difference}
use Rattle.join.specs.Joining.{join_of}
use Rattle.join.proofs.Joins.{sized_rooms_serve, join_refused, joined_call}
use Rattle.join.proofs.join_in.Goals as goal

pub returns-in_err-pair : goal.returns-in_err-pair
unfolding written_outcome refusal
returns-in_err-pair g c =
    let p = err_from_is_err_and c.from_residual.result c.from_residual.ensures.1 in
    rw (p.1, p.2) (sym (join_refused (join_of c.args.kind) c.args.a.now c.args.b.now c.args.out.now _ c.in_err-pair.ensures))

pub united-requires-clause-queue_room : goal.united-requires-clause-queue_room
united-requires-clause-queue_room g c =
    (sized_rooms_serve g.row.N g.row.QUEUE g.row.EDGES c.in_ok-pair.pair _ _ _ _ c.in_ok-pair.ensures.0 c.in_ok-pair.ensures.1 c.edge_bytes-first.ensures.place.1 c.edge_bytes-second.ensures.place.1 c.requires).0

pub left-requires-clause-queue_room : goal.left-requires-clause-queue_room
left-requires-clause-queue_room g c =
    sized_rooms_serve g.row.N g.row.QUEUE g.row.EDGES c.in_ok-pair.pair _ _ _ _ c.in_ok-pair.ensures.0 c.in_ok-pair.ensures.1 c.edge_bytes-first.ensures.place.1 c.edge_bytes-second.ensures.place.1 c.requires

pub returns-in-Union : goal.returns-in-Union
returns-in-Union g c =
    c.write.ensures
    ∙ joined_call c.args.kind Union c.in_ok-pair.pair _ _ c.args.out.now _ _ _ c.in-Union.is c.in_ok-pair.ensures.0 c.in_ok-pair.ensures.1 c.edge_bytes-first.ensures.held c.edge_bytes-second.ensures.held c.united.ensures

pub returns-in-Difference : goal.returns-in-Difference
returns-in-Difference g c =
    c.write-in-Difference.ensures
    ∙ joined_call c.args.kind Difference c.in_ok-pair.pair _ _ c.args.out.now _ _ _ c.in-Difference.is c.in_ok-pair.ensures.0 c.in_ok-pair.ensures.1 c.edge_bytes-first.ensures.held c.edge_bytes-second.ensures.held c.left.ensures
