use Rattle.std.proofs.Common.{◌∙◌}
use Rattle.encoding.proofs.Index.{block_fits, counting_ranks}
use Rattle.encoding.proofs.Opened.{opens_room, opens_counted}
use Rattle.encoding.proofs.opening.Opened.ones_before.Goals as goal

pub indexed_ones-requires : goal.indexed_ones-requires
indexed_ones-requires c =
    let o = c.args.self in
    let r = opens_room _ _ o.opens in
    (r, block_fits _ _ c.args.at.0 r (opens_counted _ _ o.opens) c.requires, c.requires)

pub returns : goal.returns
returns c = c.indexed_ones.ensures ∙ counting_ranks _ _ c.args.self.opens c.args.at.0 c.requires
