use native.Mathlib.Omega.{arith}
use Rattle.encoding.proofs.Opened.{opens_room}
use Rattle.query.proofs.Readings.{key_room}
use Rattle.prefix.proofs.Answers.{prefix_out, prefix_bad, prefix_told}
use Rattle.prefix.proofs.prefix_in.Goals as goal

pub returns-then-o-p : goal.returns-then-o-p
returns-then-o-p c = prefix_out _ _ _ (omega (arith, c.if-o-p.true, c.args.o.opens.width))

pub bad_key-requires : goal.bad_key-requires
bad_key-requires c = omega (arith, c.if-o-p.false, (opens_room _ _ c.args.o.opens).narrow)

pub returns-then-bad_key : goal.returns-then-bad_key
returns-then-bad_key c = prefix_bad _ _ _ (omega (arith, c.if-o-p.false, c.args.o.opens.width)) _ c.bad_key.ensures c.if-bad_key.true

pub range_of-requires : goal.range_of-requires
range_of-requires c = (c.if-o-p.false, key_room c.args.bytes.now _ _ c.bad_key.ensures c.if-bad_key.false)

pub returns : goal.returns
returns c = prefix_told _ _ _ (omega (arith, c.if-o-p.false, c.args.o.opens.width)) _ c.bad_key.ensures c.if-bad_key.false _ _ c.range_of.ensures
