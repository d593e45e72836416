use mathlib.Core.Path.{sym, ap, ap₂, ◌∙◌}
use Rattle.loes.specs.Entry.{count}
use Rattle.loes.specs.Read.{entry_in}
use Rattle.join.proofs.Joins.{pair_alike}
use Rattle.weights.specs.Weights.{union_weighted}
use Rattle.weights.proofs.Joins.{union_first_wrong, union_second_wrong, union_flagged, union_call}
use Rattle.weights.proofs.unite.Goals as goal

pub returns-then-wa-pair : goal.returns-then-wa-pair
returns-then-wa-pair c = sym (union_first_wrong (entry_in c.args.pair.first.bytes.now) (entry_in c.args.pair.second.bytes.now) (pair_alike c.args.pair) c.args.wa.now c.args.wb.now c.args.out.now c.args.list.now (λ z. c.if-wa-pair.true (z ∙ sym c.args.pair.first.opens.count)))

pub returns-then-wb-pair : goal.returns-then-wb-pair
returns-then-wb-pair c =
    sym (union_second_wrong (entry_in c.args.pair.first.bytes.now) (entry_in c.args.pair.second.bytes.now) (pair_alike c.args.pair) c.args.wa.now c.args.wb.now c.args.out.now c.args.list.now (c.if-wa-pair.false ∙ c.args.pair.first.opens.count) (λ z. c.if-wb-pair.true (z ∙ sym c.args.pair.second.opens.count)))

pub write_union-requires : goal.write_union-requires
write_union-requires c = (union_flagged c.edge_bytes-first.result c.edge_bytes-second.result (c.edge_bytes-first.ensures.place.0 ∙ c.args.pair.one_width ∙ sym c.edge_bytes-second.ensures.place.0) c.args.q.now _ c.merged-u.result.edges c.merged-u.result.members c.merged-u.ensures c.requires.small, c.edge_bytes-first.result.holds.narrow)

pub returns : goal.returns
returns c =
    c.write_union.ensures
    ∙ union_call c.edge_bytes-first.result c.edge_bytes-second.result (c.edge_bytes-first.ensures.place.0 ∙ c.args.pair.one_width ∙ sym c.edge_bytes-second.ensures.place.0) c.args.q.now _ c.merged-u.result.edges c.merged-u.result.members c.merged-u.ensures c.args.wa.now c.args.wb.now c.args.out.now c.args.list.now (c.if-wa-pair.false ∙ c.args.pair.first.opens.count ∙ ap count (sym c.edge_bytes-first.ensures.held)) (c.if-wb-pair.false ∙ c.args.pair.second.opens.count ∙ ap count (sym c.edge_bytes-second.ensures.held))
    ∙ ap₂ (λ d e. union_weighted d c.args.wa.now e c.args.wb.now c.args.out.now c.args.list.now) c.edge_bytes-first.ensures.held c.edge_bytes-second.ensures.held
