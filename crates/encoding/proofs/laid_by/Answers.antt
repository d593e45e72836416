use Rattle.std.proofs.Common.{arith, ◌*◌, ◌≤◌, sym, ap, ◌∙◌, Ok}
use Rattle.loes.specs.Limits.{block_entry, sub_block_entry}
use Rattle.loes.proofs.Tests.{lt_yes, lt_no}
use Rattle.encoding.specs.Fields.{body_bytes, laid_by}
use Rattle.encoding.proofs.laid_by.Goals as goal

pub returns-in-1 : goal.returns-in-1
unfolding laid_by body_bytes
returns-in-1 c = let a = c.args in sym (ap (λ t. laid_by t a.width a.bits) c.in-1.is)

pub returns-in-2 : goal.returns-in-2
unfolding laid_by body_bytes
returns-in-2 c = let a = c.args in sym (ap (λ t. laid_by t a.width a.bits) c.in-2.is)

pub returns-in-3 : goal.returns-in-3
unfolding laid_by body_bytes
returns-in-3 c = let a = c.args in sym (ap (λ t. laid_by t a.width a.bits) c.in-3.is)

pub returns-in-4 : goal.returns-in-4
unfolding laid_by body_bytes
returns-in-4 c = let a = c.args in ap (λ x. Ok x) c.bytes_for.ensures.0 ∙ sym (ap (λ t. laid_by t a.width a.bits) c.in-4.is)

pub returns-in-5 : goal.returns-in-5
unfolding laid_by body_bytes
returns-in-5 c = let a = c.args in ap (λ x. Ok (block_entry * x)) c.started_by.ensures.0 ∙ sym (ap (λ t. laid_by t a.width a.bits) c.in-5.is)

pub returns-in-6 : goal.returns-in-6
unfolding laid_by body_bytes
returns-in-6 c = let a = c.args in ap (λ x. Ok (sub_block_entry * x)) c.started_by-in-6.ensures.0 ∙ sym (ap (λ t. laid_by t a.width a.bits) c.in-6.is)

pub returns-in-0 : goal.returns-in-0
unfolding laid_by
returns-in-0 c = let a = c.args in sym (ap (λ t. laid_by t a.width a.bits) c.in-0.in-0-own.keys7)

pub returns-in-0-2 : goal.returns-in-0-2
unfolding laid_by
returns-in-0-2 c =
    let r = c.in-0.in-0-own.rest in
    let t = c.args.tag in
    let q : 4 ≤ t = omega (arith, r.1, r.0.0.0.0.1, r.0.0.0.0.0.1, r.0.0.0.0.0.0.1) in
    let h : 7 ≤ t = omega (arith, q, r.0.1, r.0.0.1, r.0.0.0.1) in
    rw (lt_yes 0 t (omega arith), lt_no t 7 h)
