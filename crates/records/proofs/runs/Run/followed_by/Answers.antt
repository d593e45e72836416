use native.Mathlib.Omega.{arith}
use Rattle.records.proofs.Numbers.{run_ok, run_cat}
use Rattle.records.proofs.runs.Run.followed_by.Goals as goal

pub invariant_of-result : goal.invariant_of-result
invariant_of-result c =
    let run = c.args.self in
    let next = c.args.next in
    let sum = run_ok run.records run.bits next.records next.bits (run.fits, c.requires.0, run.whole) (next.fits, c.requires.1, next.whole) in
    record { fits = rw sum.0 sum.1; whole = omega (arith, run.whole, next.whole) }

pub returns-clause-records : goal.returns-clause-records
returns-clause-records c =
    let run = c.args.self in
    let next = c.args.next in
    let sum = run_ok run.records run.bits next.records next.bits (run.fits, c.requires.0, run.whole) (next.fits, c.requires.1, next.whole) in
    rw sum.0 (run_cat run.records run.bits next.records next.bits (run.fits, c.requires.0, run.whole) (next.fits, c.requires.1, next.whole))
