use Rattle.std.proofs.Common.{arith, ◌<◌, ◌+◌, ◌/◌}
use Rattle.loes.specs.Bytes.{started}
use Rattle.encoding.proofs.Last.{last_byte, last_none, last_set, last_empty, last_full}
use Rattle.encoding.proofs.last_ones.Goals as goal

pub returns-then-used-eq0 : goal.returns-then-used-eq0
returns-then-used-eq0 c = last_none c.args.l.now c.args.e c.if-used-eq0.true

pub bounds-l-at : goal.bounds-l-at
unfolding started
bounds-l-at c = omega (arith, c.requires.edges)

pub returns-then-x-unit-ne0 : goal.returns-then-x-unit-ne0
returns-then-x-unit-ne0 c = last_set c.args.l.now c.args.e (omega arith) (λ z. c.if-x-unit-ne0.true (rw (← c.lowest-unit.ensures.0) at z))

pub returns-then-y-ne-BYTE_RECORDS : goal.returns-then-y-ne-BYTE_RECORDS
returns-then-y-ne-BYTE_RECORDS c =
    let a = c.args in
    let small : last_byte a.l.now a.e < 256 = (c.type_inv.l (a.e.edges + a.e.bits / 8)).fits in
    last_empty a.l.now a.e c.lowest-unit.result c.lowest-unit.ensures.0 small c.if-x-unit-ne0.false c.if-y-ne-BYTE_RECORDS.true

pub returns : goal.returns
returns c =
    let a = c.args in
    let small : last_byte a.l.now a.e < 256 = (c.type_inv.l (a.e.edges + a.e.bits / 8)).fits in
    last_full a.l.now a.e c.lowest-unit.result c.lowest-unit.ensures.0 small c.if-x-unit-ne0.false c.if-y-ne-BYTE_RECORDS.false
