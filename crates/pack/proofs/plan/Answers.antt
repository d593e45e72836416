use mathlib.Core.Path.{◌≡◌, sym, ap, subst}
use mathlib.Core.Logic.{inl, inr}
use Prim.Native.Nat.{ℕ, ◌%◌, ◌<◌}
use native.Mathlib.Omega.{arith}
use lib.ListN.{length}
use Rattle.loes.specs.Bytes.{Bytes, started}
use Rattle.loes.specs.Entry.{key_bytes}
use Rattle.pack.proofs.Batches.{bad_width_lem, ragged}
use Rattle.pack.proofs.Plans.{few_records, plan_over, plan_ready}
use mathlib.Core.Path.{sym, ap, ◌∙◌}
use Rattle.loes.specs.Bytes.{started}
use Rattle.std.proofs.lemmas.Result.{err_from_is_err_and}
use Rattle.pack.proofs.Plans.{plan_refused, few_records, plan_over, plan_ready}
use Rattle.std.proofs.Common.{ℕ, Err, Ok, drop}
use lib.Seq.{length-take-le}
use Rattle.pack.specs.Marking.{running, Starts}
use Rattle.pack.proofs.plan.Goals as goal

-- a byte or more to a key
some_bytes : (m t : ℕ) → 0 < m → t ≡ started 8 m → 0 < t
unfolding started
some_bytes m t h e = omega arith

pub returns-then-m-eq0 : goal.returns-then-m-eq0
returns-then-m-eq0 c = bad_width_lem c.args.m c.args.batch.now (elim c.then-m-eq0.either [ inl z ↦ inl z | inr w ↦ inr w.1 ])

pub nonzero_rem-batch : goal.nonzero_rem-batch
nonzero_rem-batch c = some_bytes c.args.m c.bytes_for.result (omega (arith, c.if-m-eq0.false)) c.bytes_for.ensures.0

pub returns-then-batch-bytes_for-ne0 : goal.returns-then-batch-bytes_for-ne0
unfolding key_bytes
returns-then-batch-bytes_for-ne0 c =
    let l = c.args.batch.now in
    ragged c.args.m l (omega (arith, c.if-m-eq0.false)) (omega arith) (λ z. c.if-batch-bytes_for-ne0.true (ap (λ t. length l % t) c.bytes_for.ensures.0 ∙ z))

pub of-requires : goal.of-requires
unfolding key_bytes
of-requires c =
    let l = c.args.batch.now in
    (omega (arith, c.if-m-eq0.false), omega arith, ap (λ t. length l % t) (sym c.bytes_for.ensures.0) ∙ c.if-batch-bytes_for-ne0.false)

-- the bytes are whole keys
even : (m t : ℕ) (l : Bytes) → t ≡ started 8 m → length l % t ≡ 0 → length l % key_bytes m ≡ 0
unfolding key_bytes
even m t l e h = ap (λ k. length l % k) (sym e) ∙ h

pub returns-in_err-count_records : goal.returns-in_err-count_records
returns-in_err-count_records c =
    let l = c.args.batch.now in
    let of = c.of.ensures in
    let whole = even c.args.m c.bytes_for.result l c.bytes_for.ensures.0 c.if-batch-bytes_for-ne0.false in
    let p = err_from_is_err_and c.from_residual.result c.from_residual.ensures.1 in
    rw (p.1, p.2) (plan_refused c.of.result c.args.m l of.0 of.1 of.2 whole (running c.count_records.new.counts c.of.result.width) c.in_err-count_records.field-0.0 c.in_err-count_records.ensures)

pub level_starts-requires : goal.level_starts-requires
level_starts-requires c d h =
    let l = c.args.batch.now in
    let of = c.of.ensures in
    let whole = even c.args.m c.bytes_for.result l c.bytes_for.ensures.0 c.if-batch-bytes_for-ne0.false in
    let counts = c.count_records.new.counts in
    let size : length counts ≡ c.of.result.width = c.count_records.auto.counts ∙ length-take-le c.args.m c.args.levels.now (omega (arith, c.requires.long)) ∙ sym of.0 in
    let q = few_records c.of.result c.args.m l of.0 of.1 of.2 whole (running counts c.of.result.width) c.in_ok-count_records.field-0 c.in_ok-count_records.ensures d (omega arith) in
    rw size (omega arith)

pub returns-in_err-records : goal.returns-in_err-records
returns-in_err-records c =
    let l = c.args.batch.now in
    let of = c.of.ensures in
    let whole = even c.args.m c.bytes_for.result l c.bytes_for.ensures.0 c.if-batch-bytes_for-ne0.false in
    let counts = c.count_records.new.counts in
    let size : length counts ≡ c.of.result.width = c.count_records.auto.counts ∙ length-take-le c.args.m c.args.levels.now (omega (arith, c.requires.long)) ∙ sym of.0 in
    let p = err_from_is_err_and c.from_residual-in_err-records.result c.from_residual-in_err-records.ensures.1 in
    let k = c.in_err-records.field-0.0 in
    let starts = c.level_starts.new.levels in
    let st = subst (λ x. Starts x (running counts x) starts (Err k)) size c.in_err-records.ensures in
    rw (p.1, p.2) (plan_over c.of.result c.args.m l of.0 of.1 of.2 whole (running counts c.of.result.width) c.in_ok-count_records.field-0 c.in_ok-count_records.ensures starts k st)

pub returns : goal.returns
returns c =
    let l = c.args.batch.now in
    let of = c.of.ensures in
    let whole = even c.args.m c.bytes_for.result l c.bytes_for.ensures.0 c.if-batch-bytes_for-ne0.false in
    let counts = c.count_records.new.counts in
    let size : length counts ≡ c.of.result.width = c.count_records.auto.counts ∙ length-take-le c.args.m c.args.levels.now (omega (arith, c.requires.long)) ∙ sym of.0 in
    let r = c.in_ok-records.records in
    let starts = c.level_starts.new.levels in
    let st = subst (λ x. Starts x (running counts x) starts (Ok r)) size c.in_ok-records.ensures in
    plan_ready c.of.result c.args.m l of.0 of.1 of.2 whole (running counts c.of.result.width) c.in_ok-count_records.field-0 c.in_ok-count_records.ensures starts (drop c.args.m c.args.levels.now) r (omega (arith, c.level_starts.auto.levels)) st
