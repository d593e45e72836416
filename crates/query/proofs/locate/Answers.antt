use mathlib.Core.Path.{sym, ◌∙◌}
use native.Mathlib.Omega.{arith}
use Rattle.encoding.proofs.Opened.{opens_valid}
use Rattle.query.proofs.Levels.{way_located}
use Rattle.query.proofs.Readings.{key_room}
use Rattle.query.proofs.locate.Goals as goal

pub bad_key-requires : goal.bad_key-requires
bad_key-requires c = omega (arith, (opens_valid _ _ c.args.o.opens).narrow, c.args.o.opens.width)

pub descend-at-requires : goal.descend-at-requires
descend-at-requires c = (omega arith, key_room c.args.key.now _ _ c.bad_key.ensures c.if-bad_key.false)

pub overflow_sub-result : goal.overflow_sub-result
overflow_sub-result c = (way_located _ (opens_valid _ _ c.args.o.opens) _ _ _ _ _ c.args.o.opens.width c.args.o.opens.bits c.descend-at.ensures).0

pub returns : goal.returns
returns c = (rw (← c.args.o.opens.width) (sym c.bad_key.ensures ∙ c.if-bad_key.false), (way_located _ (opens_valid _ _ c.args.o.opens) _ _ _ _ _ c.args.o.opens.width c.args.o.opens.bits c.descend-at.ensures).1)
