use mathlib.Core.Path.{sym, ap, ap₂, ◌∙◌}
use Rattle.loes.specs.Entry.{count}
use Rattle.loes.specs.Read.{entry_in}
use Rattle.join.proofs.Joins.{pair_alike}
use Rattle.weights.specs.Weights.{difference_weighted}
use Rattle.weights.proofs.Joins.{difference_wrong, difference_made, difference_count, difference_call}
use Rattle.weights.proofs.subtract.Goals as goal

pub returns-then-wa-pair : goal.returns-then-wa-pair
returns-then-wa-pair c = sym (difference_wrong (entry_in c.args.pair.first.bytes.now) (entry_in c.args.pair.second.bytes.now) (pair_alike c.args.pair) c.args.wa.now c.args.wa.now c.args.out.now c.args.list.now (λ z. c.if-wa-pair.true (z ∙ sym c.args.pair.first.opens.count)))

pub invariant_of-left : goal.invariant_of-left
invariant_of-left c = record { joined = (difference_made c.edge_bytes-first.result c.edge_bytes-second.result (c.edge_bytes-first.ensures.place.0 ∙ c.args.pair.one_width ∙ sym c.edge_bytes-second.ensures.place.0) c.args.q.now c.args.edges.now _ _ c.subtracted-d.result.edges c.subtracted-d.result.flags.0 c.subtracted-d.result.flagged c.subtracted-d.ensures).0 }

pub write_difference-requires : goal.write_difference-requires
write_difference-requires c = difference_count c.edge_bytes-first.result c.edge_bytes-second.result (c.edge_bytes-first.ensures.place.0 ∙ c.args.pair.one_width ∙ sym c.edge_bytes-second.ensures.place.0) c.args.q.now c.args.edges.now _ _ c.subtracted-d.result.edges c.subtracted-d.result.flags.0 c.subtracted-d.result.flagged c.subtracted-d.ensures c.args.wa.now

pub returns : goal.returns
returns c =
    c.write_difference.ensures
    ∙ difference_call c.edge_bytes-first.result c.edge_bytes-second.result (c.edge_bytes-first.ensures.place.0 ∙ c.args.pair.one_width ∙ sym c.edge_bytes-second.ensures.place.0) c.args.q.now c.args.edges.now _ _ c.subtracted-d.result.edges c.subtracted-d.result.flags.0 c.subtracted-d.result.flagged c.subtracted-d.ensures c.args.wa.now c.args.out.now c.args.list.now (c.if-wa-pair.false ∙ c.args.pair.first.opens.count ∙ ap count (sym c.edge_bytes-first.ensures.held))
    ∙ ap₂ (λ d e. difference_weighted d c.args.wa.now e c.args.out.now c.args.list.now) c.edge_bytes-first.ensures.held c.edge_bytes-second.ensures.held
