use Rattle.std.proofs.Common.{arith, ◌≡◌, ◌≤◌, ◌-◌, sym, length}
use Rattle.std.proofs.lemmas.Result.{err_from_is_err_and}
use Rattle.loes.specs.Limits.{head_bytes}
use Rattle.loes.specs.Read.{start4, start5, start6, tail_tests}
use Rattle.loes.proofs.Reading.{field_fits}
use Rattle.loes.proofs.Tests.{lt_yes, lt_no}
use Rattle.encoding.specs.Fields.{body_bytes}
use Rattle.encoding.proofs.Fields.{stops, passes, all_passed, holds, clear}
use Rattle.encoding.proofs.check_tail.Goals as goal

pub returns-in_err-check_field : goal.returns-in_err-check_field
unfolding tail_tests body_bytes
returns-in_err-check_field c =
    let p = err_from_is_err_and c.from_residual.result c.from_residual.ensures.1 in
    let at4 : c.args.e.edges - head_bytes ≡ start4 c.args.e.width = omega (arith, c.requires.0.edges) in
    rw (p.1, p.2) (stops _ _ _ (sym (rw at4 at c.in_err-check_field.ensures)))

pub check_field-requires-2 : goal.check_field-requires-2
unfolding body_bytes start4 start5
check_field-requires-2 c =
    let e = c.args.e in
    let at4 : e.edges - head_bytes ≡ start4 e.width = omega (arith, c.requires.0.edges) in
    let fits : start5 e.width e.bits ≤ length c.args.l.now = field_fits 4 _ _ _ (sym (rw at4 at c.in_ok-check_field.ensures)) in
    (omega (arith, c.requires.0.blocks, fits), c.requires.1, c.requires.2)

pub returns-in_err-check_field-2 : goal.returns-in_err-check_field-2
unfolding tail_tests body_bytes
returns-in_err-check_field-2 c =
    let p = err_from_is_err_and c.from_residual-in_err-check_field-2.result c.from_residual-in_err-check_field-2.ensures.1 in
    let e = c.args.e in
    let at4 : e.edges - head_bytes ≡ start4 e.width = omega (arith, c.requires.0.edges) in
    let at5 : e.blocks - head_bytes ≡ start5 e.width e.bits = omega (arith, c.requires.0.blocks) in
    rw (p.1, p.2) (passes _ _ (sym (rw at4 at c.in_ok-check_field.ensures)) (stops _ _ _ (sym (rw at5 at c.in_err-check_field-2.ensures))))

pub check_field-requires-3 : goal.check_field-requires-3
unfolding body_bytes start5 start6
check_field-requires-3 c =
    let e = c.args.e in
    let at5 : e.blocks - head_bytes ≡ start5 e.width e.bits = omega (arith, c.requires.0.blocks) in
    let fits : start6 e.width e.bits ≤ length c.args.l.now = field_fits 5 _ _ _ (sym (rw at5 at c.in_ok-check_field-2.ensures)) in
    (omega (arith, c.requires.0.sub_blocks, fits), c.requires.1, c.requires.2)

pub returns-in_err-check_field-3 : goal.returns-in_err-check_field-3
unfolding tail_tests body_bytes
returns-in_err-check_field-3 c =
    let p = err_from_is_err_and c.from_residual-in_err-check_field-3.result c.from_residual-in_err-check_field-3.ensures.1 in
    let e = c.args.e in
    let at4 : e.edges - head_bytes ≡ start4 e.width = omega (arith, c.requires.0.edges) in
    let at5 : e.blocks - head_bytes ≡ start5 e.width e.bits = omega (arith, c.requires.0.blocks) in
    let at6 : e.sub_blocks - head_bytes ≡ start6 e.width e.bits = omega (arith, c.requires.0.sub_blocks) in
    rw (p.1, p.2)
    (passes _ _ (sym (rw at4 at c.in_ok-check_field.ensures)) (passes _ _ (sym (rw at5 at c.in_ok-check_field-2.ensures)) (stops _ _ _ (sym (rw at6 at c.in_err-check_field-3.ensures)))))

pub returns-then-end_of-l : goal.returns-then-end_of-l
unfolding tail_tests body_bytes
returns-then-end_of-l c =
    let e = c.args.e in
    let at4 : e.edges - head_bytes ≡ start4 e.width = omega (arith, c.requires.0.edges) in
    let at5 : e.blocks - head_bytes ≡ start5 e.width e.bits = omega (arith, c.requires.0.blocks) in
    let at6 : e.sub_blocks - head_bytes ≡ start6 e.width e.bits = omega (arith, c.requires.0.sub_blocks) in
    passes _ _ (sym (rw at4 at c.in_ok-check_field.ensures))
    (passes _ _ (sym (rw at5 at c.in_ok-check_field-2.ensures))
    (passes _ _ (sym (rw at6 at c.in_ok-check_field-3.ensures)) (stops _ _ _ (holds 6 (lt_yes _ _ (rw c.end_of.ensures at c.if-end_of-l.true))))))

pub returns : goal.returns
unfolding tail_tests body_bytes
returns c =
    let e = c.args.e in
    let at4 : e.edges - head_bytes ≡ start4 e.width = omega (arith, c.requires.0.edges) in
    let at5 : e.blocks - head_bytes ≡ start5 e.width e.bits = omega (arith, c.requires.0.blocks) in
    let at6 : e.sub_blocks - head_bytes ≡ start6 e.width e.bits = omega (arith, c.requires.0.sub_blocks) in
    passes _ _ (sym (rw at4 at c.in_ok-check_field.ensures))
    (passes _ _ (sym (rw at5 at c.in_ok-check_field-2.ensures))
    (passes _ _ (sym (rw at6 at c.in_ok-check_field-3.ensures)) (passes _ _ (clear 6 (lt_no _ _ (rw c.end_of.ensures at c.if-end_of-l.false))) all_passed)))
