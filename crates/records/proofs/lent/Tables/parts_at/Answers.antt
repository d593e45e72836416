use Prim.Native.Nat.{◌<◌}
use native.Mathlib.Omega.{arith}
use Rattle.records.proofs.Lookups.{firsts_told, seconds_told, first_told, second_told}
use Rattle.records.proofs.lent.Tables.parts_at.Goals as goal

pub returns : goal.returns
returns c =
    let h : c.args.x < 256 = omega arith in
    let p = c.args.self.parted in
    record {
      firsts_value = (firsts_told p c.args.x h, omega arith);
      seconds_value = (seconds_told p c.args.x h, omega arith);
      first_value = first_told p c.args.x h;
      second_value = second_told p c.args.x h;
    }
