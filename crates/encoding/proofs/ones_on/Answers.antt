use Rattle.std.proofs.Common.{arith, ap, ◌∙◌}
use Rattle.loes.specs.Edges.{rank}
use Rattle.encoding.specs.Opened.{edges_at}
use Rattle.encoding.proofs.Index.{block_fits, counted_rank}
use Rattle.encoding.proofs.ones_on.Goals as goal

pub indexed_ones-requires : goal.indexed_ones-requires
indexed_ones-requires c = let p = c.requires in (p.0, block_fits _ _ c.args.o.0 p.0 p.1 p.3, p.3)

pub returns-then-far-gt-NEAR : goal.returns-then-far-gt-NEAR
returns-then-far-gt-NEAR c = c.indexed_ones.ensures ∙ counted_rank _ _ c.args.o.0 c.requires.0 c.requires.1 c.requires.3

pub returns-then-far-eq0 : goal.returns-then-far-eq0
returns-then-far-eq0 c = c.requires.4 ∙ ap (rank (edges_at c.args.l.now c.args.e)) (omega arith)
