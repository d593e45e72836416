use mathlib.Core.Path.{◌≡◌}
use Rattle.std.proofs.Common.{◌-◌}
use Rattle.loes.specs.Read.{entry_in}
use Rattle.printing.specs.Pages.{come, Fills}
use Rattle.printing.proofs.page.Page.fill.Given as goal

abbrev pub invariant-loop-self : goal.invariant-loop-self
invariant-loop-self l = (l.self.opened ≡ l.fn.self.opened) × Fills (entry_in l.fn.self.opened.bytes.now) (come l.fn.self) l.fn.text (come l.self) l.text

abbrev pub decreases-loop-self : goal.decreases-loop-self
decreases-loop-self l = l.fn.self.opened.encoding.count - l.self.index.0
