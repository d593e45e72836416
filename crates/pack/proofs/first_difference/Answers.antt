use native.Mathlib.Omega.{arith}
use Rattle.pack.proofs.Differences.{first_difference}
use Rattle.pack.proofs.first_difference.Goals as goal

pub returns : goal.returns
returns c = first_difference c.args.p c.args.q (omega (arith, c.ranges.p.fits)) (omega (arith, c.ranges.q.fits)) c.requires
