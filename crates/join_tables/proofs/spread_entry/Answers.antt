use mathlib.Core.Path.{◌≡◌}
use Prim.Native.Nat.{◌/◌, ◌^◌}
use native.Mathlib.Omega.{arith}
use Rattle.join_tables.specs.Entries.{spread_in}
use Rattle.join_tables.proofs.spread_entry.Goals as goal

pub returns : goal.returns
unfolding spread_in
returns c = let z : c.args.x / 2 ^ 0 ≡ c.args.x = omega arith in rw z
