-- Sums of counts
use mathlib.Core.Path.{◌≡◌, refl, sym, ap, ap₂, ◌∙◌}
use Prim.Native.Nat.{ℕ, zero, suc, ◌+◌, ◌≤◌, ◌<◌}
use mathlib.Core.List.{List}
use native.Mathlib.Omega.{arith}
use native.Mathlib.Numerals.{add-one}
use native.Mathlib.Decide.{le_ind, dec_le}
use lib.ListN.{length, get_or, set}
use lib.Seq.{get_or-set_same, get_or-set_other}
use lib.Dec.{ltb, leb}
use borrow.Author.Tests.{lt-leb, le-leb}
use Rattle.loes.specs.Bytes.{bit}
use Rattle.loes.proofs.Bytes.{length_tabulate, get_d_tabulate}
use Rattle.loes.proofs.Tests.{lt_yes, lt_no}
use Rattle.loes.specs.Keys.{KeySet}
use Rattle.loes.specs.Prefixes.{prefix_count, records_before}
use Rattle.pack.specs.Marking.{Bumped, sum_below, running}

pub sum_none : (l : List ℕ) → sum_below l 0 ≡ 0
unfolding sum_below
sum_none l = refl

pub sum_more : (l : List ℕ) (e : ℕ) → sum_below l (e + 1) ≡ sum_below l e + get_or l e 0
unfolding sum_below
sum_more l e = rw (add-one e)

pub sum_le : (l : List ℕ) (d m : ℕ) → d ≤ m → sum_below l d ≤ sum_below l m
unfolding sum_below
sum_le l d m h = le_ind {n = d} (λ (j : ℕ). sum_below l d ≤ sum_below l j) (omega arith) (λ j q ih. omega arith) m h

-- the records before a level
pub sum_records : (m : ℕ) (s : KeySet) (l : List ℕ) → ((e : ℕ) → e < m → get_or l e 0 ≡ prefix_count e m s) → (d : ℕ) → d ≤ m → sum_below l d ≡ records_before d m s
unfolding sum_below records_before
sum_records m s l c zero h = refl
sum_records m s l c (suc d) h = rw (sum_records m s l c d (omega arith), c d h)

-- ---- Noted at one level, for it and those behind it
pub running_at : (l : List ℕ) (m e : ℕ) → e < m → get_or (running l m) e 0 ≡ sum_below l (e + 1)
unfolding running
running_at l m e h = get_d_tabulate (λ (e : ℕ). sum_below l (suc e)) m e 0 h ∙ ap (sum_below l) (sym (add-one e))

running_size : (l : List ℕ) (m : ℕ) → length (running l m) ≡ m
unfolding running
running_size l m = length_tabulate (λ (e : ℕ). sum_below l (suc e)) m

pub noted_le : (l : List ℕ) (m e : ℕ) → e < m → get_or l e 0 ≤ get_or (running l m) e 0
noted_le l m e h = omega (arith, running_at l m e h, sum_more l e)

sum_zero : (l : List ℕ) (m : ℕ) → ((e : ℕ) → e < m → get_or l e 0 ≡ 0) → (d : ℕ) → d ≤ m → sum_below l d ≡ 0
unfolding sum_below
sum_zero l m z zero h = refl
sum_zero l m z (suc d) h = omega (arith, sum_zero l m z d (omega arith), z d h)

pub running_zero : (l : List ℕ) (m : ℕ) → ((e : ℕ) → e < m → get_or l e 0 ≡ 0) → (e : ℕ) → e < m → get_or (running l m) e 0 ≡ 0
running_zero l m z e h = running_at l m e h ∙ sum_zero l m z (e + 1) (omega arith)

-- one more at a place
sum_set : (l : List ℕ) (at d : ℕ) → at < length l → sum_below (set l at (get_or l at 0 + 1)) d ≡ sum_below l d + bit (ltb at d)
unfolding sum_below
sum_set l at zero h = rw (lt_no at 0 (omega arith))
sum_set l at (suc d) h = elim (dec_le (suc at) d) [
  | yes y ↦ rw (sum_set l at d h, get_or-set_other l at d (get_or l at 0 + 1) 0 (λ q. omega arith), lt_yes at d y, lt_yes at (suc d) (omega arith)) (omega arith)
  | no y ↦ elim (dec_le d at) [
    | yes g ↦ elim (dec_le (suc d) at) [
      | yes k ↦ rw (sum_set l at d h, get_or-set_other l at d (get_or l at 0 + 1) 0 (λ q. omega arith), lt_no at d g, lt_no at (suc d) k) (omega arith)
      | no k ↦
          let z : d ≡ at = omega arith in
          rw (sum_set l at d h, z, get_or-set_same l at (get_or l at 0 + 1) 0 h, lt_no at at (omega arith), lt_yes at (suc at) (omega arith)) (omega arith)
    ]
    | no g ↦ absurd (omega arith)
  ]
]

pub noted : (l : List ℕ) (from m : ℕ) → from < m → m ≤ length l → Bumped from m (running l m) (running (set l from (get_or l from 0 + 1)) m)
noted l from m h k =
    let l' : List ℕ = set l from (get_or l from 0 + 1) in
    record {
      long = running_size l' m ∙ sym (running_size l m);
      each = λ e x.
          let q : ltb from (e + 1) ≡ leb from e = elim (dec_le from e) [ yes y ↦ lt_yes from (e + 1) (omega arith) ∙ sym (le-leb from e y) | no y ↦ lt_no from (e + 1) (omega arith) ∙ sym (lt-leb from e (omega arith)) ] in
          running_at l' m e x ∙ sum_set l from (e + 1) (omega arith) ∙ ap₂ (λ p b. p + bit b) (sym (running_at l m e x)) q;
    }

pub not_noted : (l : List ℕ) (from m : ℕ) → m ≤ from → Bumped from m (running l m) (running l m)
not_noted l from m h = record { long = refl; each = λ e x. rw (lt-leb from e (omega arith)) (omega arith) }
