use borrow.Author.Count.{below_more}
use mathlib.Core.Path.{◌≡◌, refl, sym, ◌∙◌}
use Prim.Native.Nat.{ℕ, ◌+◌, ◌<◌, ◌≤◌}
use native.Mathlib.Omega.{arith}
use lib.ListN.{length, get_or}
use lib.Seq.{get_or-set_same, get_or-set_other}
use Rattle.pack.proofs.Sums.{sum_none, sum_more, sum_le, running_at}
use Rattle.pack.specs.Marking.{sum_below, running}
use Rattle.std.proofs.Common.{List}
use Rattle.pack.proofs.level_starts.Goals as goal

-- the level's size, and the records with those of the level
turn : (xs ys : List ℕ) (d size records : ℕ) → d < length xs → size ≡ sum_below xs d → records ≡ sum_below (running xs (length xs)) d → ((x : ℕ) → d ≤ x → get_or ys x 0 ≡ get_or xs x 0)
    → (size + get_or ys d 0 ≡ get_or (running xs (length xs)) d 0) × (size + get_or ys d 0 ≡ sum_below xs (d + 1)) × (records + (size + get_or ys d 0) ≡ sum_below (running xs (length xs)) (d + 1))
turn xs ys d size records h s r same =
    let more : size + get_or ys d 0 ≡ sum_below xs (d + 1) = omega (arith, sum_more xs d, same d (omega arith)) in
    let now : size + get_or ys d 0 ≡ get_or (running xs (length xs)) d 0 = omega (arith, more, running_at xs (length xs) d h) in
    (now, more, omega (arith, now, sum_more (running xs (length xs)) d))

pub loop-place-init : goal.loop-place-init
loop-place-init c =
    let l = c.args.levels.now in
    record { few = omega arith; size = sym (sum_none l); sum = sym (sum_none (running l (length l))); before = λ x h. absurd (omega arith); later = λ x h. refl }

pub overflow_add-size : goal.overflow_add-size
overflow_add-size c =
    let h = c.loop-place in
    let t = turn c.args.levels.now h.levels h.place-index h.size h.records (omega arith) h.invariant.size h.invariant.sum h.invariant.later in
    omega (arith, t.0, c.requires h.place-index (omega arith))

pub overflow_add-records : goal.overflow_add-records
overflow_add-records c =
    let h = c.loop-place in
    let t = turn c.args.levels.now h.levels h.place-index h.size h.records (omega arith) h.invariant.size h.invariant.sum h.invariant.later in
    omega (arith, t.0, c.requires h.place-index (omega arith), h.invariant.few)

pub returns-then-records-gt-MAX_RECORDS : goal.returns-then-records-gt-MAX_RECORDS
returns-then-records-gt-MAX_RECORDS c =
    let h = c.loop-place in
    let l = c.args.levels.now in
    let t = turn l h.levels h.place-index h.size h.records (omega arith) h.invariant.size h.invariant.sum h.invariant.later in
    (refl, omega (arith, t.2, sum_le (running l (length l)) (h.place-index + 1) (length l) (omega arith), c.if-records-gt-MAX_RECORDS.true))

pub loop-place-preserved : goal.loop-place-preserved
loop-place-preserved c =
    let h = c.loop-place in
    let l = c.args.levels.now in
    let d = h.place-index in
    let t = turn l h.levels d h.size h.records (omega arith) h.invariant.size h.invariant.sum h.invariant.later in
    record {
      few = c.if-records-gt-MAX_RECORDS.false;
      size = t.1;
      sum = t.2;
      before =
          below_more _ _ (λ x q. get_or-set_other h.levels d x h.records 0 (λ z. absurd (omega (arith, z))) ∙ h.invariant.before x q) (get_or-set_same h.levels d h.records 0 (omega arith) ∙ h.invariant.sum);
      later = λ x q. get_or-set_other h.levels d x h.records 0 (λ z. absurd (omega (arith, z))) ∙ h.invariant.later x (omega arith);
    }

pub returns : goal.returns
returns c =
    let h = c.loop-place in
    let z : h.place-index ≡ length c.args.levels.now = omega arith in
    (h.invariant.few, rw z at h.invariant.sum, λ e q. h.invariant.before e (omega arith))
