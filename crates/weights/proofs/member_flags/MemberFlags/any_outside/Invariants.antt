use mathlib.Core.Path.{◌≡◌}
use Rattle.records.specs.Records.{flags_from, first_count, second_count}
use Rattle.weights.specs.Lists.{over_at, any_below}
use Rattle.weights.proofs.member_flags.MemberFlags.any_outside.Given as goal

-- the members of each set that were met, and whether one of them leaves
abbrev pub invariant-loop-i : goal.invariant-loop-i
invariant-loop-i l = (l.ia ≡ first_count (flags_from l.self.queue.now l.self.first.0 l.i)) × (l.ib ≡ second_count (flags_from l.self.queue.now l.self.first.0 l.i)) × (l.over ≡ any_below (over_at l.self.queue.now l.self.first.0 l.wa l.wb) l.i)
