use Rattle.cursor.proofs.Checks.{check_first, check_below, check_next, check_fail, check_all}
use Rattle.loes.proofs.Lists.{rank_le}
use mathlib.Core.Bool.{Bool, true}
use mathlib.Core.List.{List}
use mathlib.Core.Path.{◌≡◌, sym, ap, ◌∙◌}
use native.Mathlib.Omega.{arith}
use Prim.Native.Nat.{ℕ, ◌+◌, ◌<◌, ◌≤◌}
use lib.ListN.{length, take, get_or, length-take}
use Rattle.std.proofs.lemmas.List.{get_or-take}
use Rattle.loes.specs.Entry.{edges_of, edge_count}
use Rattle.loes.specs.Read.{entry_in}
use Rattle.encoding.proofs.Opened.{opens_valid, opens_room}
use Rattle.cursor.specs.Moves.{leads_on}
use Rattle.cursor.proofs.Checks.{check_first, check_below, check_next, check_fail, check_all}
use Rattle.cursor.proofs.is_path.Goals as goal

-- a place in the front of a path is one of the path's, and has its offset
front_at : (os : List ℕ) (m i : ℕ) → m ≤ length os → i < length (take m os) → (i < m) × (get_or (take m os) i 0 ≡ get_or os i 0)
front_at os m i h x = let y : i < m = omega (arith, length-take m os) in (y, get_or-take m os i 0 y)

-- there an offset that leads on is an edge's
on_below : (e : List Bool) (r o : ℕ) (b : Bool) → b ≡ leads_on e r o → b ≡ true → o < length e
on_below e r o b q y = check_below e r o (sym q ∙ y)

pub loop-offset-init : goal.loop-offset-init
loop-offset-init c = check_first _ _

pub returns-then-not-leads_on : goal.returns-then-not-leads_on
returns-then-not-leads_on c =
    let z = front_at c.args.path.now c.args.o.encoding.width c.loop-offset.offset-index c.requires c.loop-offset-test.true in
    check_fail _ _ (omega (arith, c.requires, c.args.o.opens.width)) _ _ c.loop-offset.invariant (omega (arith, z.0, c.args.o.opens.width))
    (rw z.1 at (sym c.leads_on.ensures ∙ c.if-not-leads_on.true))

pub ones_before-record-requires : goal.ones_before-record-requires
unfolding edge_count
ones_before-record-requires c =
    let z = on_below _ _ _ _ c.leads_on.ensures c.if-not-leads_on.false in
    (omega (arith, z, c.args.o.opens.bits))

pub overflow_add-record : goal.overflow_add-record
unfolding edge_count
overflow_add-record c =
    let z = on_below _ _ _ _ c.leads_on.ensures c.if-not-leads_on.false in
    omega (arith, z, c.ones_before-record.ensures, (rank_le (edges_of (entry_in c.args.o.bytes.now)) (get_or (take c.args.o.encoding.width c.args.path.now) c.loop-offset.offset-index 0)).0, c.args.o.opens.bits, (opens_room _ _ c.args.o.opens).few)

pub loop-offset-preserved : goal.loop-offset-preserved
loop-offset-preserved c =
    let z = front_at c.args.path.now c.args.o.encoding.width c.loop-offset.offset-index c.requires c.loop-offset-test.true in
    check_next _ _ _ _ _ c.loop-offset.invariant (rw z.1 at (sym c.leads_on.ensures ∙ c.if-not-leads_on.false)) (rw (← z.1) (ap (λ x. x + 1) c.ones_before-record.ensures))

pub returns : goal.returns
returns c = check_all _ _ (omega (arith, c.requires, c.args.o.opens.width)) _ _ c.loop-offset.invariant (opens_valid _ _ c.args.o.opens)
    (omega (arith, length-take c.args.o.encoding.width c.args.path.now, c.requires, c.loop-offset-test.false, c.loop-offset.auto.offset-index-end, c.args.o.opens.width))
