use mathlib.Core.Path.{◌≡◌}
use Prim.Native.Nat.{ℕ}
use mathlib.Core.Option.{none}
use Rattle.loes.specs.Refusals.{first_of}
use Rattle.pack.proofs.Turn.{KeysCounted}
use Rattle.pack.specs.Marking.{running}
use Rattle.pack.specs.Batch.{key, tests_below}
use Rattle.pack.proofs.count_records.Given as goal

-- the keys so far pass, and their records are counted
abbrev pub invariant-loop-i : goal.invariant-loop-i
invariant-loop-i l = record {
  passed : first_of (tests_below l.batch.width l.batch.bytes.now l.i) ≡ none;
  counted : KeysCounted l.batch.width l.batch.width (λ (e : ℕ). 0) (key l.batch.width l.batch.bytes.now) l.i (running l.counts l.batch.width);
}
