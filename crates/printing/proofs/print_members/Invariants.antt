use Rattle.std.proofs.Common.{◌-◌, ◌≡◌}
use Rattle.printing.proofs.print_members.Given as goal

abbrev pub invariant-loop-page : goal.invariant-loop-page
invariant-loop-page g l = (l.page.opened ≡ l.o) × (l.page.length ≡ 0)

abbrev pub decreases-loop-page : goal.decreases-loop-page
decreases-loop-page g l = l.o.encoding.count - l.page.index.0
