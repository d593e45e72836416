use mathlib.Core.Path.{◌≡◌, ◌∙◌}
use Prim.Native.Nat.{suc}
use mathlib.Core.Option.{none}
use native.Mathlib.Omega.{arith}
use native.Mathlib.Numerals.{add-one}
use Rattle.loes.specs.Refusals.{first_of}
use Rattle.pack.proofs.Sums.{running_zero, noted_le}
use Rattle.pack.proofs.Turn.{none_yet, counted_le, counted_more}
use Rattle.pack.proofs.KeyTests.{none_tested, one_more, first_refused, rising}
use Rattle.pack.specs.Marking.{running}
use Rattle.pack.specs.Batch.{key, tests_below}
use Rattle.std.proofs.lemmas.Result.{err_from_is_err_and}
use Rattle.loes.specs.Numbers.{number_of}
use Rattle.pack.proofs.Places.{few_keys}
use Rattle.pack.proofs.count_records.Goals as goal

pub loop-i-init : goal.loop-i-init
loop-i-init c =
    let b = c.args.batch in
    record {
      passed = none_tested b.width b.bytes.now;
      counted = none_yet b.width b.width (λ e. 0) (key b.width b.bytes.now) (running c.args.counts.now b.width) (running_zero c.args.counts.now b.width c.requires.1);
    }

pub returns-in_err-new : goal.returns-in_err-new
returns-in_err-new c =
    let b = c.args.batch in
    let p = err_from_is_err_and c.from_residual.result c.from_residual.ensures.1 in
    rw (p.1, p.2) (first_refused b.width b.bytes.now c.loop-i.i b.count (number_of c.in_err-new.field-0.0) (omega arith) c.loop-i.invariant.passed c.in_err-new.ensures)

pub note-requires : goal.note-requires
note-requires c =
    let b = c.args.batch in
    let w = b.width in
    let l = b.bytes.now in
    let i = c.loop-i.i in (
      omega arith,
      λ e q.
          omega (
            arith,
            few_keys w b.size b.count l b.whole,
            counted_le w i (λ x. 0) (key w l) (rising w l i c.loop-i.invariant.passed) i (running c.loop-i.counts w) (omega arith) c.loop-i.invariant.counted e q,
            noted_le c.loop-i.counts w e q,
          ),
    )

pub loop-i-preserved : goal.loop-i-preserved
loop-i-preserved c =
    let b = c.args.batch in
    let w = b.width in
    let l = b.bytes.now in
    let i = c.loop-i.i in
    let passed : first_of (tests_below w l (suc i)) ≡ none = one_more w l i c.loop-i.invariant.passed ∙ c.in_ok-new.ensures.0 in
    record {
      passed = rw (add-one i) passed;
      counted = counted_more w (suc i) (λ x. 0) (key w l) (rising w l (suc i) passed) w i c.in_ok-new.new (running c.loop-i.counts w) (running c.note.new.counts w) (omega arith) (omega arith) c.in_ok-new.ensures.1 c.note.ensures c.loop-i.invariant.counted;
    }

pub returns : goal.returns
returns c =
    let z : c.loop-i.i ≡ c.args.batch.count = omega arith in
    (rw z at c.loop-i.invariant.passed, λ e l. omega (arith, rw z at (c.loop-i.invariant.counted e l)))
