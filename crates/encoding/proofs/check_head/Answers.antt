use Rattle.std.proofs.Common.{rules, arith, ◌≡◌, sym, ◌∙◌, ◌∷◌, []}
use Rattle.std.proofs.lemmas.Result.{err_from_is_err_and}
use mathlib.Core.Option.{none}
use Rattle.loes.specs.Limits.{width_bytes, count_bytes}
use Rattle.loes.specs.Refusals.{first_of, test}
use Rattle.loes.specs.Entry.{wrong_width, too_many_edges}
use Rattle.loes.specs.Read.{level_bytes, start2, width_in, edge_count_in, head_tests}
use Rattle.loes.proofs.Reading.{field_fits}
use Rattle.loes.proofs.Tests.{lt_yes, lt_no}
use Rattle.encoding.specs.Fields.{body_bytes}
use Rattle.encoding.proofs.Fields.{edge_count_read, stops, passes, all_passed, holds, clear, width_small, width_great, width_right}
use Rattle.encoding.proofs.check_head.Goals as goal

pub returns-in_err-check_field : goal.returns-in_err-check_field
unfolding head_tests body_bytes
returns-in_err-check_field c = let p = err_from_is_err_and c.from_residual.result c.from_residual.ensures.1 in rw (p.1, p.2) (stops _ _ _ (sym c.in_err-check_field.ensures))

pub number-width-requires : goal.number-width-requires
unfolding body_bytes
number-width-requires c = (search rules, field_fits 1 width_bytes c.args.l.now 0 (sym c.in_ok-check_field.ensures))

pub returns-then-width-eq0 : goal.returns-then-width-eq0
unfolding head_tests body_bytes
returns-then-width-eq0 c =
    let wide : c.number-width.result ≡ width_in c.args.l.now = unfold width_in in c.number-width.ensures.0 in
    passes _ _ (sym c.in_ok-check_field.ensures) (stops 4 _ _ (holds 4 (width_small _ (sym wide ∙ c.if-width-eq0.true))))

pub returns-then-width-gt-MAX_WIDTH : goal.returns-then-width-gt-MAX_WIDTH
unfolding head_tests body_bytes
returns-then-width-gt-MAX_WIDTH c =
    let wide : c.number-width.result ≡ width_in c.args.l.now = unfold width_in in c.number-width.ensures.0 in
    passes _ _ (sym c.in_ok-check_field.ensures) (stops 4 _ _ (holds 4 (width_great _ (rw wide at c.if-width-gt-MAX_WIDTH.true))))

pub check_field-requires-2 : goal.check_field-requires-2
unfolding body_bytes
check_field-requires-2 c = (omega (arith, field_fits 1 width_bytes c.args.l.now 0 (sym c.in_ok-check_field.ensures)), c.if-width-gt-MAX_WIDTH.false, search rules)

pub returns-in_err-check_field-2 : goal.returns-in_err-check_field-2
unfolding head_tests body_bytes
returns-in_err-check_field-2 c =
    let wide : c.number-width.result ≡ width_in c.args.l.now = unfold width_in in c.number-width.ensures.0 in
    let p = err_from_is_err_and c.from_residual-in_err-check_field-2.result c.from_residual-in_err-check_field-2.ensures.1 in
    let l = c.args.l.now in
    let right : first_of (test (wrong_width (width_in l)) 4 ∷ []) ≡ none = rw (← wide) (clear 4 (width_right _ c.if-width-eq0.false c.if-width-gt-MAX_WIDTH.false)) in
    rw (p.1, p.2) (passes _ _ (sym c.in_ok-check_field.ensures) (passes _ _ right (stops _ _ _ (sym c.in_err-check_field-2.ensures))))

pub check_field-requires-3 : goal.check_field-requires-3
unfolding body_bytes
check_field-requires-3 c = (omega (arith, field_fits 2 count_bytes c.args.l.now start2 (sym c.in_ok-check_field-2.ensures)), c.if-width-gt-MAX_WIDTH.false, search rules)

pub returns-in_err-check_field-3 : goal.returns-in_err-check_field-3
unfolding head_tests body_bytes
returns-in_err-check_field-3 c =
    let wide : c.number-width.result ≡ width_in c.args.l.now = unfold width_in in c.number-width.ensures.0 in
    let p = err_from_is_err_and c.from_residual-in_err-check_field-3.result c.from_residual-in_err-check_field-3.ensures.1 in
    let l = c.args.l.now in
    let right : first_of (test (wrong_width (width_in l)) 4 ∷ []) ≡ none = rw (← wide) (clear 4 (width_right _ c.if-width-eq0.false c.if-width-gt-MAX_WIDTH.false)) in
    let third = rw wide at c.in_err-check_field-3.ensures in
    rw (p.1, p.2) (passes _ _ (sym c.in_ok-check_field.ensures) (passes _ _ right (passes _ _ (sym c.in_ok-check_field-2.ensures) (stops _ _ _ (sym third)))))

pub number-requires : goal.number-requires
unfolding body_bytes
number-requires c =
    let wide : c.number-width.result ≡ width_in c.args.l.now = unfold width_in in c.number-width.ensures.0 in
    let third = rw wide at c.in_ok-check_field-3.ensures in
    (search rules, omega (arith, wide, field_fits 3 (level_bytes (width_in c.args.l.now)) c.args.l.now 12 (sym third)))

pub returns-then-number-gt-MAX_EDGES : goal.returns-then-number-gt-MAX_EDGES
unfolding head_tests body_bytes too_many_edges
returns-then-number-gt-MAX_EDGES c =
    let wide : c.number-width.result ≡ width_in c.args.l.now = unfold width_in in c.number-width.ensures.0 in
    let l = c.args.l.now in
    let right : first_of (test (wrong_width (width_in l)) 4 ∷ []) ≡ none = rw (← wide) (clear 4 (width_right _ c.if-width-eq0.false c.if-width-gt-MAX_WIDTH.false)) in
    let third = rw wide at c.in_ok-check_field-3.ensures in
    let many : c.number.result ≡ edge_count_in l = edge_count_read _ _ _ wide c.number.ensures.0 in
    passes _ _ (sym c.in_ok-check_field.ensures) (passes _ _ right (passes _ _ (sym c.in_ok-check_field-2.ensures) (passes _ _ (sym third) (stops 5 _ _ (holds 5 (lt_yes _ _ (rw many at c.if-number-gt-MAX_EDGES.true)))))))

pub returns : goal.returns
unfolding head_tests body_bytes too_many_edges
returns c =
    let wide : c.number-width.result ≡ width_in c.args.l.now = unfold width_in in c.number-width.ensures.0 in
    let l = c.args.l.now in
    let right : first_of (test (wrong_width (width_in l)) 4 ∷ []) ≡ none = rw (← wide) (clear 4 (width_right _ c.if-width-eq0.false c.if-width-gt-MAX_WIDTH.false)) in
    let third = rw wide at c.in_ok-check_field-3.ensures in
    let many : c.number.result ≡ edge_count_in l = edge_count_read _ _ _ wide c.number.ensures.0 in
    passes _ _ (sym c.in_ok-check_field.ensures) (passes _ _ right (passes _ _ (sym c.in_ok-check_field-2.ensures) (passes _ _ (sym third) (passes _ _ (clear 5 (lt_no _ _ (rw many at c.if-number-gt-MAX_EDGES.false))) all_passed))))
