use native.Mathlib.Omega.{arith}
use Rattle.restrict.proofs.Subsets.{subtract_entries, subtracted_count, subtract_done}
use Rattle.restrict.proofs.subtract.Goals as goal

pub mark-requires : goal.mark-requires
mark-requires c = let v = c.merge-u.ensures in
    (v.flags.fits, omega (arith, v.size, c.requires.queue_room.0.small), subtract_entries c.args.a.holds v)

pub collect-edges-requires : goal.collect-edges-requires
collect-edges-requires c = let v = c.merge-u.ensures in
    let w = c.mark.ensures in
    let r = c.requires.queue_room in
    (omega (arith, v.flags.fits, w.size), omega (arith, v.flags.fits, v.size, r.0.small), omega (arith, subtracted_count c.args.a.holds v w.marks, r.1))

pub returns : goal.returns
returns c = subtract_done c.args.a.holds c.merge-u.ensures c.mark.ensures c.collect-edges.ensures.0
