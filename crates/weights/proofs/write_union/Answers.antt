use Prim.Native.Nat.{◌/◌}
use mathlib.Core.Path.{◌≡◌, sym, ap, ◌∙◌}
use mathlib.Core.Bool.{true, false, ◌||◌}
use mathlib.Core.List.{[], ◌∷◌}
use native.Mathlib.Omega.{arith}
use lib.Dec.{ltb}
use lib.ListN.{length}
use Rattle.loes.specs.Bytes.{tabulate, front}
use Rattle.loes.specs.Encode.{encode}
use Rattle.loes.specs.Read.{end_of}
use Rattle.loes.specs.Refusals.{overflow, test}
use Rattle.loes.specs.Held.{entry_held}
use Rattle.loes.proofs.Bytes.{length_tabulate}
use Rattle.loes.proofs.Tests.{lt_yes, lt_no}
use Rattle.weights.specs.Lists.{sum_at, over_at, any_below}
use Rattle.weights.proofs.Writes.{writes_large, last_yes, last_no}
use Rattle.weights.proofs.Held.{told_short, told_last, told_written, flagged_bits, sealed_held, sealed_joined}
use Rattle.weights.proofs.write_union.Goals.{then-too_short-via-then-too_short, then-too_short-via-else-too_short+then-list-u}
use Rattle.weights.proofs.write_union.Goals as goal

pub returns-then-u-gt-MAX_EDGES : goal.returns-then-u-gt-MAX_EDGES
returns-then-u-gt-MAX_EDGES c =
    sym (writes_large (test (any_below (over_at c.args.q.now (c.args.u.edges / 2) c.args.wa.now c.args.wb.now) c.args.u.members) overflow ∷ []) (entry_held c.args.width c.args.u.edges c.args.q.now) (tabulate (sum_at c.args.q.now (c.args.u.edges / 2) c.args.wa.now c.args.wb.now) c.args.u.members) c.args.out.now c.args.list.now (omega (arith, flagged_bits c.requires.0, c.if-u-gt-MAX_EDGES.true)))

pub returns-then-too_short : goal.returns-then-too_short
returns-then-too_short c =
    let short : (ltb (length c.args.out.now) (end_of c.args.width c.args.u.edges) || ltb (length c.args.list.now) c.args.u.members) ≡ true =
    elim c.then-too_short.branch [
      | then-too_short-via-then-too_short w ↦ rw (← c.too_short.ensures, w.if-too_short.true)
      | then-too_short-via-else-too_short+then-list-u w ↦ rw (← c.too_short.ensures, w.if-too_short.false) (lt_yes _ _ w.if-list-u.true)
    ] in
    sym (told_short c.args.width c.args.u.edges c.args.q.now (flagged_bits c.requires.0) c.if-u-gt-MAX_EDGES.false (tabulate (sum_at c.args.q.now (c.args.u.edges / 2) c.args.wa.now c.args.wb.now) c.args.u.members) c.args.u.members (length_tabulate _ c.args.u.members) c.args.out.now c.args.list.now (test (any_below (over_at c.args.q.now (c.args.u.edges / 2) c.args.wa.now c.args.wb.now) c.args.u.members) overflow ∷ []) short)

pub returns-then-any_outside : goal.returns-then-any_outside
returns-then-any_outside c =
    let fits : (ltb (length c.args.out.now) (end_of c.args.width c.args.u.edges) || ltb (length c.args.list.now) c.args.u.members) ≡ false = (rw (← c.too_short.ensures, c.if-too_short.false) (lt_no _ _ c.if-list-u.false)) in
    sym (told_last c.args.width c.args.u.edges c.args.q.now (flagged_bits c.requires.0) c.if-u-gt-MAX_EDGES.false (tabulate (sum_at c.args.q.now (c.args.u.edges / 2) c.args.wa.now c.args.wb.now) c.args.u.members) c.args.u.members (length_tabulate _ c.args.u.members) c.args.out.now c.args.list.now (test (any_below (over_at c.args.q.now (c.args.u.edges / 2) c.args.wa.now c.args.wb.now) c.args.u.members) overflow ∷ []) fits overflow (last_yes (any_below (over_at c.args.q.now (c.args.u.edges / 2) c.args.wa.now c.args.wb.now) c.args.u.members) overflow (sym c.any_outside.ensures ∙ c.if-any_outside.true)))

pub invariant_of-joined : goal.invariant_of-joined
invariant_of-joined c = record { joined = sealed_joined c.requires.0 c.seal.ensures c.requires.1 }

pub returns : goal.returns
returns c =
    let fits : (ltb (length c.args.out.now) (end_of c.args.width c.args.u.edges) || ltb (length c.args.list.now) c.args.u.members) ≡ false = (rw (← c.too_short.ensures, c.if-too_short.false) (lt_no _ _ c.if-list-u.false)) in
    told_written c.args.width c.args.u.edges c.args.q.now (flagged_bits c.requires.0) c.if-u-gt-MAX_EDGES.false (tabulate (sum_at c.args.q.now (c.args.u.edges / 2) c.args.wa.now c.args.wb.now) c.args.u.members) c.args.u.members (length_tabulate _ c.args.u.members) c.args.out.now c.args.list.now (test (any_below (over_at c.args.q.now (c.args.u.edges / 2) c.args.wa.now c.args.wb.now) c.args.u.members) overflow ∷ []) fits _ _ _ (last_no (any_below (over_at c.args.q.now (c.args.u.edges / 2) c.args.wa.now c.args.wb.now) c.args.u.members) overflow (sym c.any_outside.ensures ∙ c.if-any_outside.false)) c.put.ensures.0
    (c.put.ensures.1 ∙ ap (λ e. front (encode e) c.args.out.now) (sealed_held c.requires.0 c.seal.ensures))
    c.write_sums.ensures
