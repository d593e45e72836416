use Rattle.std.proofs.Common.{◌≤◌, sym, subst}
use Rattle.bits.proofs.Counts.{byte_ones_le}
use Rattle.bits.proofs.Table.{tallies}
use Rattle.bits.proofs.tally.Goals as goal

pub returns : goal.returns
returns c = let e = tallies.rule c.args.x c.ranges.x.fits in (e, subst (λ n. n ≤ 8) (sym e) (byte_ones_le c.args.x))
