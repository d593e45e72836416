use Rattle.bits.specs.Tables.{digit}
use Rattle.bits.proofs.Table.{places}
use Rattle.bits.proofs.place.Goals as goal

pub returns : goal.returns
unfolding digit
returns c = places.rule c.args.x c.args.k c.ranges.x.fits c.requires
