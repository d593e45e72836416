use mathlib.Core.Path.{sym, ap, ◌∙◌}
use native.Mathlib.Omega.{arith}
use mir.Facts.{to_z-of_z}
use Rattle.std.specs.Prelude.{Ok, Err, Some, None}
use Rattle.std.proofs.lemmas.Result.{err_from_is_err_and}
use Rattle.loes.specs.Read.{entry_in}
use Rattle.weights.specs.Answers.{posted_at}
use Rattle.weights.proofs.Posts.{post_wrong, finds}
use Rattle.weights.proofs.post_in.Goals as goal

pub returns-then-list-o : goal.returns-then-list-o
returns-then-list-o c = sym (post_wrong (entry_in c.args.o.bytes.now) c.args.list.now c.args.key.now c.args.amount (λ z. c.if-list-o.true (z ∙ sym c.args.o.opens.count)))

pub returns-in_err-index_of_in : goal.returns-in_err-index_of_in
returns-in_err-index_of_in c =
    let p = err_from_is_err_and c.from_residual.result c.from_residual.ensures.1 in
    rw (p.1, p.2) (sym (finds (entry_in c.args.o.bytes.now) c.args.key.now (Err c.in_err-index_of_in.field-0.0) c.in_err-index_of_in.ensures c.args.list.now c.args.amount (c.if-list-o.false ∙ c.args.o.opens.count)))

pub post_at-requires : goal.post_at-requires
post_at-requires c =
    let f = finds (entry_in c.args.o.bytes.now) c.args.key.now (Ok (Some c.in-Some.i)) (rw c.in-Some.is at c.in_ok-index_of_in.ensures) in
    omega (arith, f.0, c.if-list-o.false, c.args.o.opens.count)

pub returns-in-None : goal.returns-in-None
returns-in-None c =
    sym (finds (entry_in c.args.o.bytes.now) c.args.key.now (Ok None) (rw c.in-None.is at c.in_ok-index_of_in.ensures) c.args.list.now c.args.amount (c.if-list-o.false ∙ c.args.o.opens.count))

pub returns-in-Some : goal.returns-in-Some
returns-in-Some c =
    let f = finds (entry_in c.args.o.bytes.now) c.args.key.now (Ok (Some c.in-Some.i)) (rw c.in-Some.is at c.in_ok-index_of_in.ensures) in
    c.post_at.ensures ∙ ap (posted_at c.args.list.now _) (to_z-of_z c.ranges.amount) ∙ sym (f.1 c.args.list.now c.args.amount (c.if-list-o.false ∙ c.args.o.opens.count))
