use Rattle.std.proofs.Common.{◌≡◌, ◌-◌, ◌+◌, sym, ap, ◌∙◌, length, get_or, ltb, eqb, true, false, eq-eqb, ne_eqb}
use Rattle.std.proofs.lemmas.Result.{err_from_is_err_and}
use Rattle.loes.specs.Bytes.{number_at}
use Rattle.loes.specs.Refusals.{first_of, test}
use Rattle.loes.specs.Read.{field_tests}
use Rattle.loes.proofs.Tests.{lt_yes, lt_no}
use Rattle.encoding.specs.Fields.{tag_of, body_bytes, laid_by}
use Rattle.encoding.proofs.Fields.{turn_comes, tag_length, tag_refused}
use Rattle.encoding.proofs.check_field.Goals as goal

pub returns-then-left-lt-HEAD_BYTES : goal.returns-then-left-lt-HEAD_BYTES
unfolding field_tests first_of test
returns-then-left-lt-HEAD_BYTES c = rw (lt_yes (length c.args.l.now - c.args.at) 3 c.if-left-lt-HEAD_BYTES.true)

pub returns-in_err-n : goal.returns-in_err-n
unfolding field_tests first_of test
returns-in_err-n c =
    let p = err_from_is_err_and c.from_residual.result c.from_residual.ensures.1 in
    let a = c.args in
    let tag = get_or a.l.now a.at 0 in
    let long : ltb (length a.l.now - a.at) 3 ≡ false = lt_no _ _ c.if-left-lt-HEAD_BYTES.false in
    let r = tag_refused tag a.width a.bits _ (sym c.in_err-n.ensures) in
    rw (p.1, p.2, r.0, long, ne_eqb tag (tag_of a.turn) (r.1 (tag_of a.turn) (turn_comes a.turn).0 (turn_comes a.turn).1))

pub returns-then-tag : goal.returns-then-tag
unfolding field_tests first_of test
returns-then-tag c =
    let a = c.args in
    let tag = get_or a.l.now a.at 0 in
    let long : ltb (length a.l.now - a.at) 3 ≡ false = lt_no _ _ c.if-left-lt-HEAD_BYTES.false in
    rw (long, ne_eqb tag (tag_of a.turn) (λ z. c.if-tag.true (z ∙ sym c.tag.ensures)))

pub returns-then-number-n : goal.returns-then-number-n
unfolding field_tests first_of test
returns-then-number-n c =
    let a = c.args in
    let tag = get_or a.l.now a.at 0 in
    let long : ltb (length a.l.now - a.at) 3 ≡ false = lt_no _ _ c.if-left-lt-HEAD_BYTES.false in
    let n-is : c.in_ok-n.n ≡ body_bytes (tag_of a.turn) a.width a.bits =
    tag_length (tag_of a.turn) a.width a.bits _ (turn_comes a.turn).0 (turn_comes a.turn).1 (ap (λ x. laid_by x a.width a.bits) (sym (c.if-tag.false ∙ c.tag.ensures)) ∙ sym c.in_ok-n.ensures) in
    let tagged : eqb tag (tag_of a.turn) ≡ true = eq-eqb _ _ (c.if-tag.false ∙ c.tag.ensures) in
    rw (long, tagged, ne_eqb _ _ (λ z. c.if-number-n.true (c.number.ensures.0 ∙ z ∙ sym n-is)))

pub returns-then-left-n : goal.returns-then-left-n
unfolding field_tests first_of test
returns-then-left-n c =
    let a = c.args in
    let tag = get_or a.l.now a.at 0 in
    let long : ltb (length a.l.now - a.at) 3 ≡ false = lt_no _ _ c.if-left-lt-HEAD_BYTES.false in
    let n-is : c.in_ok-n.n ≡ body_bytes (tag_of a.turn) a.width a.bits =
    tag_length (tag_of a.turn) a.width a.bits _ (turn_comes a.turn).0 (turn_comes a.turn).1 (ap (λ x. laid_by x a.width a.bits) (sym (c.if-tag.false ∙ c.tag.ensures)) ∙ sym c.in_ok-n.ensures) in
    let tagged : eqb tag (tag_of a.turn) ≡ true = eq-eqb _ _ (c.if-tag.false ∙ c.tag.ensures) in
    let same_length : eqb (number_at 2 a.l.now (a.at + 1)) (body_bytes (tag_of a.turn) a.width a.bits) ≡ true = eq-eqb _ _ (sym c.number.ensures.0 ∙ c.if-number-n.false ∙ n-is) in
    rw (long, tagged, same_length, lt_yes _ _ (rw n-is at c.if-left-n.true))

pub returns : goal.returns
unfolding field_tests first_of test
returns c =
    let a = c.args in
    let tag = get_or a.l.now a.at 0 in
    let long : ltb (length a.l.now - a.at) 3 ≡ false = lt_no _ _ c.if-left-lt-HEAD_BYTES.false in
    let n-is : c.in_ok-n.n ≡ body_bytes (tag_of a.turn) a.width a.bits =
    tag_length (tag_of a.turn) a.width a.bits _ (turn_comes a.turn).0 (turn_comes a.turn).1 (ap (λ x. laid_by x a.width a.bits) (sym (c.if-tag.false ∙ c.tag.ensures)) ∙ sym c.in_ok-n.ensures) in
    let tagged : eqb tag (tag_of a.turn) ≡ true = eq-eqb _ _ (c.if-tag.false ∙ c.tag.ensures) in
    let same_length : eqb (number_at 2 a.l.now (a.at + 1)) (body_bytes (tag_of a.turn) a.width a.bits) ≡ true = eq-eqb _ _ (sym c.number.ensures.0 ∙ c.if-number-n.false ∙ n-is) in
    rw (long, tagged, same_length, lt_no _ _ (rw n-is at c.if-left-n.false))
