use mathlib.Core.Path.{◌≡◌}
use Prim.Native.Nat.{◌≤◌}
use Rattle.loes.specs.Prefixes.{prefix_count}
use Rattle.pack.specs.Rising.{set_below}
use Rattle.pack.specs.Batch.{key}
use Rattle.pack.proofs.count_members.Given as goal

abbrev pub invariant-loop-i : goal.invariant-loop-i
invariant-loop-i l = record {
  counted : l.members ≡ prefix_count l.m l.m (set_below (key l.m l.batch) l.i);
  few : l.members ≤ l.i;
}
