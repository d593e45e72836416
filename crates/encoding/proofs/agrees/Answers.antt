use Rattle.std.proofs.Common.{arith, ◌*◌, ◌/◌, ◌%◌, sym, ap, ◌∙◌, drop, subst, Some}
use mathlib.Core.Bool.{not, false≢true}
use Rattle.loes.proofs.Tests.{not_false}
use Rattle.bits.proofs.Counts.{ones_bits_le}
use Rattle.encoding.specs.Agree.{Whole, Last, last_edges}
use Rattle.encoding.proofs.Agree.{bytes_all, fields_room, wrong_same, whole_of, last_of, count_of, right_of, same_by}
use Rattle.encoding.proofs.agrees.Goals as goal

pub whole_ones-requires : goal.whole_ones-requires
whole_ones-requires c = fields_room _ _ c.requires

pub returns-in_default : goal.returns-in_default
returns-in_default c =
    wrong_same _ _ c.requires (bytes_all _ (λ i. (c.type_inv.l i).fits)) (λ r. subst (Whole _ _) c.in_default.is c.whole_ones.ensures (whole_of _ _ c.requires r))

pub last_ones-requires : goal.last_ones-requires
last_ones-requires c = fields_room _ _ c.requires

pub returns-in_default-last_ones : goal.returns-in_default-last_ones
returns-in_default-last_ones c =
    wrong_same _ _ c.requires (bytes_all _ (λ i. (c.type_inv.l i).fits)) (λ r. subst (Last _ _) c.in_default-last_ones.is c.last_ones.ensures (last_of _ _ c.requires r))

pub levels_agree-requires : goal.levels_agree-requires
levels_agree-requires c = (fields_room _ _ c.requires, (subst (Whole _ _) c.in-Some.is c.whole_ones.ensures).0.0)

pub returns-then-not-levels_agree : goal.returns-then-not-levels_agree
returns-then-not-levels_agree c =
    wrong_same _ _ c.requires (bytes_all _ (λ i. (c.type_inv.l i).fits)) (λ r. false≢true (sym (ap not (c.levels_agree.ensures.1 r.levels)) ∙ ap not c.if-not-levels_agree.true))

pub overflow_add-result-2 : goal.overflow_add-result-2
overflow_add-result-2 c =
    let l = c.args.l.now in
    let e = c.args.e in
    let w : Whole l e (Some c.in-Some.n) = subst (Whole l e) c.in-Some.is c.whole_ones.ensures in
    let v : Last l e (Some c.in-Some-last_ones.k) = subst (Last l e) c.in-Some-last_ones.is c.last_ones.ensures in
    omega
    (arith, c.requires.small, (fields_room l e c.requires).few, c.roots_of.ensures.1, w.1, ones_bits_le (drop c.args.e.edges c.args.l.now) (8 * (c.args.e.bits / 8)), v.1, ones_bits_le (last_edges c.args.l.now c.args.e) (c.args.e.bits % 8))

pub overflow_add-result-3 : goal.overflow_add-result-3
overflow_add-result-3 c =
    let l = c.args.l.now in
    let e = c.args.e in
    let w : Whole l e (Some c.in-Some.n) = subst (Whole l e) c.in-Some.is c.whole_ones.ensures in
    let v : Last l e (Some c.in-Some-last_ones.k) = subst (Last l e) c.in-Some-last_ones.is c.last_ones.ensures in
    omega
    (arith, c.requires.small, (fields_room l e c.requires).few, c.roots_of.ensures.1, w.1, ones_bits_le (drop c.args.e.edges c.args.l.now) (8 * (c.args.e.bits / 8)), v.1, ones_bits_le (last_edges c.args.l.now c.args.e) (c.args.e.bits % 8))

pub returns : goal.returns
returns c =
    let bytes = bytes_all c.args.l.now (λ i. (c.type_inv.l i).fits) in
    let w = subst (Whole _ _) c.in-Some.is c.whole_ones.ensures in
    let v = subst (Last _ _) c.in-Some-last_ones.is c.last_ones.ensures in
    let q = count_of c.args.l.now c.args.e c.requires _ _ w.1 v.1 in
    rw c.roots_of.ensures.0
    (same_by c.args.l.now c.args.e c.requires bytes _ _
    (λ z. right_of _ _ c.requires w.0 v.0 (c.levels_agree.ensures.0 (not_false c.levels_agree.result (ap not c.if-not-levels_agree.false))) (q.0 z)) (λ r. q.1 r.count))
