use Rattle.std.proofs.Common.{sym, ◌∙◌}
use Rattle.std.proofs.lemmas.Result.{err_from_is_err_and}
use Rattle.encoding.proofs.Agree.{same_opens}
use Rattle.encoding.proofs.Answers.{open_refused, open_told}
use Rattle.encoding.proofs.Fields.{rejects_7}
use Rattle.encoding.proofs.open.Goals as goal

pub returns-in_err-e-clause-told : goal.returns-in_err-e-clause-told
returns-in_err-e-clause-told c = let p = err_from_is_err_and c.from_residual.result c.from_residual.ensures.1 in rw (p.1, p.2) (open_refused _ _ c.in_err-e.ensures)

pub of-requires : goal.of-requires
of-requires c = same_opens _ _ c.in_ok-e.ensures (sym c.agrees.ensures ∙ c.if-agrees.true)

pub returns-then-agrees-clause-told : goal.returns-then-agrees-clause-told
returns-then-agrees-clause-told c =
    let o = same_opens _ _ c.in_ok-e.ensures (sym c.agrees.ensures ∙ c.if-agrees.true) in
    rw c.of.ensures.1 (open_told _ _ o)

pub returns-clause-checked : goal.returns-clause-checked
returns-clause-checked c = rejects_7 _ _ c.in_ok-e.ensures (sym c.agrees.ensures ∙ c.if-agrees.false)

pub returns-clause-told : goal.returns-clause-told
returns-clause-told c = open_refused _ _ (rejects_7 _ _ c.in_ok-e.ensures (sym c.agrees.ensures ∙ c.if-agrees.false))
