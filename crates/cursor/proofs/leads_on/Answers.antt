use mathlib.Core.Bool.{Bool}
use mathlib.Core.List.{List}
use mathlib.Core.Logic.{◌⊎◌, inl, inr}
use mathlib.Core.Path.{◌≡◌, ◌∙◌}
use Prim.Native.Nat.{ℕ, ◌/◌, ◌≤◌}
use lib.Dec.{eqb, ltb}
use lib.ListN.{length}
use borrow.Author.Tests.{ne_eqb}
use Rattle.loes.specs.Entry.{edges_of, edge_count}
use Rattle.loes.specs.Read.{entry_in}
use Rattle.loes.proofs.Tests.{lt_no}
use Rattle.cursor.specs.Moves.{leads_on}
use Rattle.cursor.proofs.Checks.{leads_other, leads_past, leads_bit}
use Rattle.cursor.proofs.leads_on.Goals as goal
use Rattle.cursor.proofs.leads_on.Goals.{then-at-r, else-at-r}

-- past the last edge, in its own record
past : (e : List Bool) (r o : ℕ) → o / 2 ≡ r → ((o / 2 ≡ r) × (length e ≤ o)) ⊎ (o / 2 ≡ r → ⊥) → ltb o (length e) ≡ leads_on e r o
past e r o z (inl y) = rw (lt_no o (length e) y.1) (leads_past e r o y.1)
past e r o z (inr n) = absurd (n z)

pub returns-then-at-o : goal.returns-then-at-o
returns-then-at-o c = leads_bit _ _ _ _ c.if-at-o.true.0 c.edge_at.ensures

pub returns-else-at-o : goal.returns-else-at-o
unfolding edge_count
returns-else-at-o c =
    let e : List Bool = edges_of (entry_in c.args.o.bytes.now) in
    elim c.if-at-r.branch [
      | then-at-r w ↦
          let p : ltb c.args.at.0 c.args.o.encoding.bits ≡ leads_on e c.args.r.0 c.args.at.0 =
          rw c.args.o.opens.bits (past e c.args.r.0 c.args.at.0 w.if-at-r.true (rw c.args.o.opens.bits at c.if-at-o.either)) in
          cc
      | else-at-r w ↦
          let n : eqb (c.args.at.0 / 2) c.args.r.0 ≡ leads_on e c.args.r.0 c.args.at.0 = ne_eqb _ _ w.if-at-r.false ∙ leads_other e c.args.r.0 c.args.at.0 w.if-at-r.false in
          cc
    ]
