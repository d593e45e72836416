use Rattle.std.proofs.Common.{rules, arith, ◌≡◌, ℕ, suc, ◌+◌, ◌-◌, ◌%◌, ◌∙◌, ap, ap₂}
use Rattle.encoding.specs.Counting.{lent, count_sub_block, counted_to}
use Rattle.encoding.proofs.Opened.{room_at}
use Rattle.encoding.proofs.Index.{lent_length, lent_part}
use Rattle.encoding.proofs.indexed_ones.Goals as goal

pub returns-then-n-eq0 : goal.returns-then-n-eq0
unfolding counted_to
returns-then-n-eq0 c = rw c.if-n-eq0.true

pub number-block-requires : goal.number-block-requires
number-block-requires c = (search rules, (room_at _ _ (c.args.o.0 - 1) c.requires.0 (omega (arith, c.if-n-eq0.false, c.requires.2))).1)

pub number-sub_block-requires : goal.number-sub_block-requires
number-sub_block-requires c = (search rules, (room_at _ _ (c.args.o.0 - 1) c.requires.0 (omega (arith, c.if-n-eq0.false, c.requires.2))).2)

pub slice_bounds-count_sub_block-end : goal.slice_bounds-count_sub_block-end
slice_bounds-count_sub_block-end c = omega (arith, (room_at _ _ (c.args.o.0 - 1) c.requires.0 (omega (arith, c.if-n-eq0.false, c.requires.2))).0)

pub count_sub_block-requires : goal.count_sub_block-requires
count_sub_block-requires c =
    let a = c.args in
    let n = lent_length a.l.now a.e (a.o.0 - 1) c.requires.0 (omega (arith, c.if-n-eq0.false, c.requires.2)) in
    rw (lent_part a.l.now a.e (a.o.0 - 1)) (
      omega (arith, c.number-block.ensures.0, c.requires.1 (omega (arith, c.if-n-eq0.false))),
      omega (arith, c.number-sub_block.ensures.1),
      omega arith,
      omega (arith, n),
      omega (arith, n),
    )

pub returns : goal.returns
unfolding counted_to
returns c =
    let a = c.args in
    let o : ℕ = a.o.0 - 1 in
    let z : suc o ≡ a.o.0 = omega (arith, c.if-n-eq0.false) in
    c.count_sub_block.ensures ∙ ap (λ x. count_sub_block c.number-block.result c.number-sub_block.result x (o % 512 + 1)) (lent_part a.l.now a.e o)
    ∙ ap₂ (λ x y. count_sub_block x y (lent a.l.now a.e o) (o % 512 + 1)) c.number-block.ensures.0 c.number-sub_block.ensures.0
    ∙ ap (counted_to a.l.now a.e) z
