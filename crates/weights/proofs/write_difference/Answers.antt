use mathlib.Core.Path.{◌≡◌, refl, sym, ◌∙◌}
use mathlib.Core.Bool.{true, false, ◌||◌}
use mathlib.Core.List.{[]}
use native.Mathlib.Omega.{arith}
use lib.Dec.{ltb}
use lib.ListN.{length}
use Rattle.loes.specs.Read.{end_of}
use Rattle.loes.specs.Refusals.{first_of}
use Rattle.loes.specs.Held.{entry_held}
use Rattle.loes.proofs.Tests.{lt_yes, lt_no}
use Rattle.join.proofs.Joins.{joined_bits}
use Rattle.weights.specs.Lists.{kept_to}
use Rattle.weights.proofs.Writes.{writes_large}
use Rattle.weights.proofs.Held.{told_short, told_written}
use Rattle.weights.proofs.write_difference.Goals.{then-too_long-via-then-too_long, then-too_long-via-else-too_long+then-list-n}
use Rattle.weights.proofs.write_difference.Goals as goal

pub returns-then-left-gt-MAX_EDGES : goal.returns-then-left-gt-MAX_EDGES
returns-then-left-gt-MAX_EDGES c =
    sym (writes_large [] (entry_held c.args.left.width c.args.left.bits c.args.left.bytes.now) (kept_to c.args.flags.queue.now c.args.flags.first.0 c.args.wa.now c.args.flags.count) c.args.out.now c.args.list.now (omega (arith, joined_bits _ _ _ c.args.left.joined, c.if-left-gt-MAX_EDGES.true)))

pub returns-then-too_long : goal.returns-then-too_long
returns-then-too_long c =
    let short : (ltb (length c.args.out.now) (end_of c.args.left.width c.args.left.bits) || ltb (length c.args.list.now) c.members-n.result) ≡ true =
    elim c.then-too_long.branch [
      | then-too_long-via-then-too_long w ↦ rw (← c.too_long.ensures, w.if-too_long.true)
      | then-too_long-via-else-too_long+then-list-n w ↦ rw (← c.too_long.ensures, w.if-too_long.false) (lt_yes _ _ w.if-list-n.true)
    ] in
    sym (told_short c.args.left.width c.args.left.bits c.args.left.bytes.now (joined_bits _ _ _ c.args.left.joined) c.if-left-gt-MAX_EDGES.false (kept_to c.args.flags.queue.now c.args.flags.first.0 c.args.wa.now c.args.flags.count) c.members-n.result (c.requires ∙ sym c.members-n.ensures) c.args.out.now c.args.list.now [] short)

pub returns : goal.returns
returns c =
    let fits : (ltb (length c.args.out.now) (end_of c.args.left.width c.args.left.bits) || ltb (length c.args.list.now) c.members-n.result) ≡ false =
    rw (← c.too_long.ensures, c.if-too_long.false) (lt_no _ _ c.if-list-n.false) in
    told_written c.args.left.width c.args.left.bits c.args.left.bytes.now (joined_bits _ _ _ c.args.left.joined) c.if-left-gt-MAX_EDGES.false (kept_to c.args.flags.queue.now c.args.flags.first.0 c.args.wa.now c.args.flags.count) c.members-n.result (c.requires ∙ sym c.members-n.ensures) c.args.out.now c.args.list.now [] fits _ _ _ (unfold first_of in refl) c.put.ensures.0 c.put.ensures.1 c.write_kept.ensures
