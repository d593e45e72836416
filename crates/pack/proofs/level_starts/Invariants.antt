use mathlib.Core.Path.{◌≡◌}
use Prim.Native.Nat.{ℕ, ◌<◌, ◌≤◌}
use lib.ListN.{length, get_or}
use Rattle.pack.specs.Marking.{max_records, sum_below, running}
use Rattle.pack.proofs.level_starts.Given as goal

abbrev pub invariant-loop-place : goal.invariant-loop-place
invariant-loop-place l = record {
  few : l.records ≤ max_records;
  size : l.size ≡ sum_below l.initial.levels l.place-index;
  sum : l.records ≡ sum_below (running l.initial.levels (length l.initial.levels)) l.place-index;
  before : (x : ℕ) → x < l.place-index → get_or l.levels x 0 ≡ sum_below (running l.initial.levels (length l.initial.levels)) x;
  later : (x : ℕ) → l.place-index ≤ x → get_or l.levels x 0 ≡ get_or l.initial.levels x 0;
}
