use Rattle.std.proofs.Common.{arith, ◌-◌}
use Rattle.loes.proofs.Lists.{rank_le}
use Rattle.encoding.specs.Opened.{edges_at}
use Rattle.encoding.proofs.Opened.{room_at, length_edges_at}
use Rattle.encoding.proofs.Index.{ones_by_byte}
use Rattle.encoding.proofs.ones_near.Goals as goal

pub tally_part-before-requires : goal.tally_part-before-requires
tally_part-before-requires c = let a = c.args in ((room_at a.l.now a.e a.from.0 c.requires.0 (omega (arith, c.requires.1, c.requires.3))).0, omega arith)

pub tally_bytes-whole-requires : goal.tally_bytes-whole-requires
tally_bytes-whole-requires c =
    let a = c.args in
    (omega (arith, c.requires.1), omega (arith, (room_at a.l.now a.e (a.o.0 - 1) c.requires.0 (omega (arith, c.requires.1, c.requires.3))).0), omega (arith, c.requires.2))

pub tally_part-part-requires : goal.tally_part-part-requires
tally_part-part-requires c = let a = c.args in ((room_at a.l.now a.e (a.o.0 - 1) c.requires.0 (omega (arith, c.requires.1, c.requires.3))).0, omega arith)

pub overflow_add-result : goal.overflow_add-result
overflow_add-result c = let a = c.args in omega (arith, c.requires.4, (rank_le (edges_at a.l.now a.e) a.from.0).1, length_edges_at a.l.now a.e, c.requires.0.few, c.tally_bytes-whole.ensures.1)

pub overflow_add-result-2 : goal.overflow_add-result-2
overflow_add-result-2 c = let a = c.args in omega (arith, c.requires.4, (rank_le (edges_at a.l.now a.e) a.from.0).1, length_edges_at a.l.now a.e, c.requires.0.few, c.tally_bytes-whole.ensures.1, c.tally_part-part.ensures.1)

pub overflow_sub-result : goal.overflow_sub-result
overflow_sub-result c = let a = c.args in omega (arith, c.requires.4, ones_by_byte a.l.now a.e a.from.0 a.o.0 c.requires.1 c.requires.3, c.tally_bytes-whole.ensures.0, c.tally_part-part.ensures.0, c.tally_part-before.ensures.0)

pub returns : goal.returns
returns c = let a = c.args in omega (arith, c.requires.4, ones_by_byte a.l.now a.e a.from.0 a.o.0 c.requires.1 c.requires.3, c.tally_bytes-whole.ensures.0, c.tally_part-part.ensures.0, c.tally_part-before.ensures.0)
