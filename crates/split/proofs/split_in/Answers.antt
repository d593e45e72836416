use mathlib.Core.Path.{sym, ◌∙◌}
use Rattle.std.proofs.lemmas.Result.{err_from_is_err_and}
use Rattle.split.specs.Splitting.{split_outcome}
use Rattle.split.proofs.Writing.{sized_rooms_serve, split_refused, split_parts}
use Rattle.split.proofs.split_in.Goals as goal

pub returns-in_err-pair : goal.returns-in_err-pair
unfolding split_outcome
returns-in_err-pair g c =
    let p = err_from_is_err_and c.from_residual.result c.from_residual.ensures.1 in
    rw (p.1, p.2) (sym (split_refused c.args.a.now c.args.b.now c.args.both.now c.args.only_first.now c.args.only_second.now _ c.in_err-pair.ensures))

pub parts_of-parts-requires-clause-divide_room : goal.parts_of-parts-requires-clause-divide_room
parts_of-parts-requires-clause-divide_room g c =
    sized_rooms_serve g.row.N g.row.QUEUE g.row.MARKS c.in_ok-pair.pair _ _ _ _ c.in_ok-pair.ensures.0 c.in_ok-pair.ensures.1 c.edge_bytes-first.ensures.place.1 c.edge_bytes-second.ensures.place.1 c.requires

pub returns : goal.returns
returns g c =
    let k = c.parts_of-parts.ensures in
    c.write.ensures
    ∙ split_parts c.in_ok-pair.pair _ _ c.args.both.now c.args.only_first.now c.args.only_second.now _ _ _ _ _ c.in_ok-pair.ensures.0 c.in_ok-pair.ensures.1 c.edge_bytes-first.ensures.held c.edge_bytes-second.ensures.held k.both k.only_first k.only_second
