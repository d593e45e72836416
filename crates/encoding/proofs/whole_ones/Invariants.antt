use Rattle.std.proofs.Common.{◌≤◌}
use Rattle.encoding.proofs.Pass.{Going, Later}
use Rattle.encoding.proofs.whole_ones.Given as goal

abbrev pub invariant-loop-j : goal.invariant-loop-j
invariant-loop-j l = Going l.l l.e l.j l.n × (l.base ≤ l.n) × Later l.l l.e l.j l.base
