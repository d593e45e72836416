use mathlib.Core.Path.{◌≡◌}
use lib.ListN.{take}
use Rattle.loes.specs.Bytes.{tabulate}
use Rattle.records.specs.Records.{flags_from, first_count, second_count}
use Rattle.weights.specs.Lists.{sum_at}
use Rattle.weights.proofs.member_flags.MemberFlags.write_sums.Given as goal

-- the members of each set that were met, and their sums
abbrev pub invariant-loop-i : goal.invariant-loop-i
invariant-loop-i l = (l.ia ≡ first_count (flags_from l.self.queue.now l.self.first.0 l.i)) × (l.ib ≡ second_count (flags_from l.self.queue.now l.self.first.0 l.i)) × (take l.i l.list ≡ tabulate (sum_at l.self.queue.now l.self.first.0 l.wa l.wb) l.i)
