use mathlib.Core.Path.{◌∙◌}
use Prim.Native.Nat.{◌/◌}
use native.Mathlib.Omega.{arith}
use lib.ListN.{get_or}
use Rattle.records.proofs.Numbers.{spliced, put_run}
use Rattle.records.proofs.append.Goals as goal

pub overflow_mul-v : goal.overflow_mul-v
overflow_mul-v c =
    let run = c.args.r in
    let value = spliced (get_or c.args.out.now (c.args.k.0 / 4) 0) c.args.k.0 run.bits run.records (omega arith) (run.fits, omega arith, run.whole) in
    record { fits = omega (arith, value.0) }

pub returns : goal.returns
returns c =
    let run = c.args.r in
    let value = spliced (get_or c.args.out.now (c.args.k.0 / 4) 0) c.args.k.0 run.bits run.records (omega arith) (run.fits, omega arith, run.whole) in
    let put = c.copy_from_slice.ensures.after ∙ c.to_be_bytes.ensures in
    put_run c.args.out.now c.copy_from_slice.new.self c.args.k.0 _ (run.bits / 2) run.records _ c.requires.0 (omega (arith, c.requires.1)) (rw run.whole run.fits) value.1 (omega arith) put
