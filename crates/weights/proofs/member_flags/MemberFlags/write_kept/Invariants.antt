use mathlib.Core.Path.{◌≡◌}
use lib.ListN.{length, take}
use Rattle.records.specs.Records.{flags_from, first_count}
use Rattle.weights.specs.Lists.{kept_to}
use Rattle.weights.proofs.member_flags.MemberFlags.write_kept.Given as goal

-- the members of the first that were met, how many of them only it has, and their weights
abbrev pub invariant-loop-i : goal.invariant-loop-i
invariant-loop-i l = (l.ia ≡ first_count (flags_from l.self.queue.now l.self.first.0 l.i)) × (l.k ≡ length (kept_to l.self.queue.now l.self.first.0 l.wa l.i)) × (take l.k l.list ≡ kept_to l.self.queue.now l.self.first.0 l.wa l.i)
