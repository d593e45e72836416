use mathlib.Core.Path.{◌≡◌, ap, ◌∙◌}
use Prim.Native.Nat.{suc, ◌-◌}
use native.Mathlib.Omega.{arith}
use lib.ListN.{length}
use Rattle.loes.specs.Edges.{edges_before}
use Rattle.loes.specs.Encode.{level_end}
use Rattle.loes.specs.Read.{entry_in}
use Rattle.query.specs.Select.{level_start}
use Rattle.loes.specs.Edges.{edges_before}
use borrow.Author.Rules.{rules}
use Rattle.query.proofs.level_start.Goals as goal

pub returns-then-d-eq0 : goal.returns-then-d-eq0
unfolding level_start edges_before
returns-then-d-eq0 c = search rules

pub returns : goal.returns
unfolding level_start level_end
returns c = let z : suc (c.args.d - 1) ≡ c.args.d = omega arith in
    c.level_end.ensures ∙ ap (λ n. length (edges_before n (entry_in c.args.o.bytes.now).width (entry_in c.args.o.bytes.now).set)) z
