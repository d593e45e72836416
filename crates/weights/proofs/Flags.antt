-- Lists read in step with flags: what was taken before a member, what is taken at it, and what was written so far.
use mathlib.Core.Path.{◌≡◌, refl, sym, ap, ap₂, ◌∙◌}
use Prim.Native.Nat.{ℕ, zero, suc, ◌+◌, ◌/◌, ◌%◌, ◌≤◌, ◌<◌}
use mathlib.Core.Bool.{Bool, true, false, ◌&&◌, ◌||◌, cond, or-false, false≢true}
use mathlib.Core.List.{List, [], ◌∷◌, ◌++◌, append-nil}
use native.Mathlib.Omega.{arith}
use native.Mathlib.Decide.{le_ind, dec_le}
use native.Mathlib.Numerals.{add-one}
use lib.IntN.{ℤ, ◌+ℤ◌, +ℤ_idl, +ℤ_idr}
use mir.Syntax.{w32}
use lib.ListN.{length, get_or, set, take, length-append}
use lib.Seq.{take-set-le, take-suc-set}
use lib.Dec.{eqb}
use mir.Val.{bool_byte, SFits}
use Rattle.loes.specs.Bytes.{Bytes, bit, odd, tabulate}
use Rattle.loes.specs.Keys.{any_of}
use Rattle.loes.proofs.Bytes.{length_tabulate}
use Rattle.loes.proofs.Bits.{bit_odd}
use Rattle.loes.proofs.Lists.{any_of_append}
use Rattle.loes.proofs.Tests.{neither, yes_eq}
use Rattle.loes.proofs.Tree.{bit_le}
use Rattle.records.specs.Records.{flag_at, flags_from, is_flag, first_count, second_count}
use Rattle.records.proofs.Codes.{flag_code}
use Rattle.records.proofs.Lookups.{first_le, second_le}
use Rattle.merge.proofs.Single.{flag_odd}
use Rattle.merge.proofs.Merging.{first_append, second_append}
use Rattle.weights.specs.Weights.{Weights, no_weight, outside}
use Rattle.weights.proofs.Ranges.{fits_inside}
use Rattle.weights.specs.Lists.{taken, first_at, second_at, sum_at, over_at, any_below, kept_to, FlagRead}

-- ---- How many were taken
module _ (q : Bytes) (r : ℕ) where
  flags_more : (i : ℕ) → flags_from q r (suc i) ≡ flags_from q r i ++ flag_at q (r + i) ∷ []
  unfolding flags_from tabulate
  flags_more i = refl

  first_more : (i : ℕ) → first_count (flags_from q r (suc i)) ≡ first_count (flags_from q r i) + bit (flag_at q (r + i)).in_first
  first_more i = ap first_count (flags_more i) ∙ first_append (flags_from q r i) (flag_at q (r + i) ∷ []) ∙ unfold first_count in omega arith

  second_more : (i : ℕ) → second_count (flags_from q r (suc i)) ≡ second_count (flags_from q r i) + bit (flag_at q (r + i)).in_second
  second_more i = ap second_count (flags_more i) ∙ second_append (flags_from q r i) (flag_at q (r + i) ∷ []) ∙ unfold second_count in omega arith

  pub first_within : (i : ℕ) → first_count (flags_from q r i) ≤ i
  unfolding flags_from
  first_within i = omega (arith, first_le (flags_from q r i), length_tabulate (λ (j : ℕ). flag_at q (r + j)) i)

  pub second_within : (i : ℕ) → second_count (flags_from q r i) ≤ i
  unfolding flags_from
  second_within i = omega (arith, second_le (flags_from q r i), length_tabulate (λ (j : ℕ). flag_at q (r + j)) i)

  module _ (wa : Weights) where
    kept_one : (i : ℕ) → length (kept_to q r wa (suc i)) ≡ length (kept_to q r wa i) + bit (is_flag 1 (flag_at q (r + i)))
    unfolding kept_to
    kept_one i = length-append (kept_to q r wa i) _ ∙ ap (λ n. length (kept_to q r wa i) + n) (one (is_flag 1 (flag_at q (r + i))))
      where
        one : (b : Bool) → length (cond b (first_at q r wa i ∷ []) []) ≡ bit b
        one true = refl
        one false = refl

    pub kept_within : (i : ℕ) → length (kept_to q r wa i) ≤ i
    kept_within zero = unfold kept_to in omega arith
    kept_within (suc i) = omega (arith, kept_one i, kept_within i, bit_le (is_flag 1 (flag_at q (r + i))))

    kept_most : (i n : ℕ) → i ≤ n → length (kept_to q r wa i) ≤ length (kept_to q r wa n)
    kept_most i n h = le_ind {n = i} (λ (j : ℕ). length (kept_to q r wa i) ≤ length (kept_to q r wa j)) (omega arith) (λ j k ih. omega (arith, ih, kept_one j)) n h

-- one of two that are not both taken is nothing
single : (a b : Bool) (wa wb : Weights) (i j : ℕ) (x y : ℤ) → x ≡ taken a wa i → y ≡ taken b wb j → SFits w32 x → SFits w32 y → (a && b) ≡ false → outside (x +ℤ y) ≡ false
unfolding taken
single true true wa wb i j x y p q f g h = absurd (false≢true (sym h))
single true false wa wb i j x y p q f g h = ap (λ z. outside (x +ℤ z)) q ∙ ap outside (+ℤ_idr x) ∙ fits_inside x f
single false b wa wb i j x y p q f g h = ap (λ z. outside (z +ℤ y)) p ∙ ap outside (+ℤ_idl y) ∙ fits_inside y g

-- ---- Member i, whose flag was read as f
module _ {q : Bytes} {r i f : ℕ} (e : FlagRead q r i f) where
  pub first_next : first_count (flags_from q r i) + f % 2 ≡ first_count (flags_from q r (suc i))
  first_next = omega (arith, first_more q r i, ap bit (flag_odd q (r + i) f e.code).0, bit_odd f)

  pub second_next : second_count (flags_from q r i) + f / 2 ≡ second_count (flags_from q r (suc i))
  second_next = omega (arith, second_more q r i, ap bit (flag_odd q (r + i) f e.code).1, bit_odd (f / 2), e.low)

  pub kept_next : (wa : Weights) → length (kept_to q r wa i) + bit (eqb f 1) ≡ length (kept_to q r wa (suc i))
  kept_next wa = ap (λ b. length (kept_to q r wa i) + bit b) (sym (flag_code f 1 q (r + i) e.low e.code)) ∙ sym (kept_one q r wa i)

  module _ (wa wb : Weights) where
    -- its sum, which leaves only if both sets have it
    module _ (ia ib : ℕ) (x y : ℤ) (k : ia ≡ first_count (flags_from q r i)) (l : ib ≡ second_count (flags_from q r i)) (u : x ≡ taken (odd f) wa ia) (v : y ≡ taken (odd (f / 2)) wb ib) where
      pub sum_is : x +ℤ y ≡ sum_at q r wa wb i
      unfolding sum_at first_at second_at
      sum_is = rw ((flag_odd q (r + i) f e.code).0, (flag_odd q (r + i) f e.code).1, u, v, k, l)

      pub over_is : SFits w32 x → SFits w32 y → outside (x +ℤ y) ≡ over_at q r wa wb i
      unfolding over_at
      over_is g h =
          rw ((flag_odd q (r + i) f e.code).0, (flag_odd q (r + i) f e.code).1, ← sum_is)
          (go (odd f && odd (f / 2)) (single (odd f) (odd (f / 2)) wa wb ia ib x y u v g h))
        where
          go : (b : Bool) → (b ≡ false → outside (x +ℤ y) ≡ false) → outside (x +ℤ y) ≡ (b && outside (x +ℤ y))
          go true g = refl
          go false g = g refl

-- a truth value as a number
pub byte_bit : (b : Bool) → bool_byte b ≡ bit b
byte_bit true = refl
byte_bit false = refl

-- ---- One of the first n
pub below_more : (f : ℕ → Bool) (n : ℕ) → any_below f (suc n) ≡ (any_below f n || f n)
unfolding any_below tabulate any_of
below_more f n = any_of_append (λ b. b) (tabulate f n) (f n ∷ []) ∙ ap (λ x. any_below f n || x) (or-false (f n))

pub none_below : (f : ℕ → Bool) (n i : ℕ) → any_below f n ≡ false → i < n → f i ≡ false
none_below f zero i h l = absurd (omega arith)
none_below f (suc n) i h l =
    let none = neither (any_below f n) (f n) (sym (below_more f n) ∙ h) in
    elim (dec_le (suc i) n) [ yes k ↦ none_below f n i none.0 k | no k ↦ let e : i ≡ n = omega arith in rw e none.1 ]

-- ---- What was written so far: entry by entry, and of those that are kept
pub one_more : {A : Type 0} (g : ℕ → A) (l : List A) (i : ℕ) (x : A) → i < length l → take i l ≡ tabulate g i → x ≡ g i → take (suc i) (set l i x) ≡ tabulate g (suc i)
unfolding tabulate
one_more g l i x h p z = take-suc-set l i x h ∙ ap₂ (λ a b. a ++ b ∷ []) p z

-- each entry is put at the next place while there is one; what is kept stays
module _ {q : Bytes} {r i f : ℕ} (e : FlagRead q r i f) (wa list new : Weights) (n : ℕ) (h : i < n) (long : length list ≡ length (kept_to q r wa n)) where
  abbrev k : ℕ
  k = length (kept_to q r wa i)

  abbrev here : Bool
  here = is_flag 1 (flag_at q (r + i))

  first_set : here ≡ true → (flag_at q (r + i)).in_first ≡ true
  first_set z = (flag_odd q (r + i) f e.code).0 ∙ ap odd (yes_eq f 1 (sym (flag_code f 1 q (r + i) e.low e.code) ∙ z)) ∙ unfold odd in refl

  count_one : (b : Bool) → here ≡ b → length (kept_to q r wa (suc i)) ≡ k + bit b
  count_one b z = kept_one q r wa i ∙ ap (λ b. k + bit b) z

  kept_to_lem : (b : Bool) → here ≡ b → kept_to q r wa (suc i) ≡ kept_to q r wa i ++ cond b (first_at q r wa i ∷ []) []
  unfolding kept_to
  kept_to_lem b z = rw z

  pub kept_more : take k list ≡ kept_to q r wa i → (k < length list → new ≡ set list k (get_or wa (first_count (flags_from q r i)) no_weight)) → (length list ≤ k → new ≡ list)
      → take (length (kept_to q r wa (suc i))) new ≡ kept_to q r wa (suc i)
  kept_more p put stay = go here refl
    where
      go : (b : Bool) → here ≡ b → take (length (kept_to q r wa (suc i))) new ≡ kept_to q r wa (suc i)
      go true z =
          let l : k < length list = omega (arith, count_one true z, kept_most q r wa (suc i) n h, long) in
          let w : first_at q r wa i ≡ get_or wa (first_count (flags_from q r i)) no_weight = unfold first_at taken in rw (first_set z) in
          rw (count_one true z, put l, add-one k) (take-suc-set list k _ l ∙ ap₂ (λ a b. a ++ b ∷ []) p (sym w) ∙ sym (kept_to_lem true z))
      go false z =
          let w : take k new ≡ take k list = elim (dec_le (suc k) (length list)) [
            | yes l ↦ ap (take k) (put l) ∙ take-set-le k list k _ (omega arith)
            | no l ↦ ap (take k) (stay (omega arith))
          ] in
          let c : length (kept_to q r wa (suc i)) ≡ k = omega (arith, count_one false z) in
          rw (c, w, p) (sym (kept_to_lem false z ∙ append-nil (kept_to q r wa i)))
