-- Sixteen records of one edge each, marked by one operation on numbers.
use mathlib.Core.Path.{◌≡◌, refl, sym, ap, ap₂, ◌∙◌}
use Prim.Native.Nat.{ℕ, zero, suc, ◌+◌, ◌-◌, ◌*◌, ◌/◌, ◌%◌, ◌^◌, ◌≤◌, ◌<◌}
use mathlib.Core.Bool.{Bool, true, false, ◌&&◌, cond}
use mathlib.Core.List.{List, [], ◌∷◌, ◌++◌}
use native.Mathlib.Omega.{arith}
use native.Mathlib.Decide.{ℕ_discrete, dec_le}
use lib.ListN.{length, get_or, set, length-set, get_or-append}
use lib.Seq.{get_or-append_seam, get_or-set_same, get_or-set_other}
use lib.Bits.{bit_and, bit_or, and_shr, and_mod, or_shr, or_mod, and_le_r, and_zero_r}
use Rattle.loes.specs.Bytes.{Bytes, bit, odd}
use Rattle.loes.specs.Edges.{Record}
use Rattle.loes.proofs.Tests.{lt_yes}
use Rattle.loes.proofs.Tree.{bit_le}
use Rattle.loes.proofs.Bytes.{get_d_tabulate}
use Rattle.records.specs.Records.{empty_record, has_edge, children, record_of_code, code_in, record_at, records_at}
use Rattle.records.specs.Numbers.{records_of}
use Rattle.restrict.specs.Restriction.{mask_at, kept_at, Entries, kept_singles, SingleRoom, SinglesMarked}
use Rattle.records.proofs.Codes.{code_at}
use Rattle.records.proofs.Numbers.{length_run, length_at, sixteen}
use Rattle.restrict.proofs.Marking.{Marking}
use Rattle.restrict.proofs.Masking.{kept_same, step, marking_same}

-- the lower bit of each of n records
unfoldable pub lower : ℕ → ℕ
lower zero = 0
lower (suc n) = lower n * 4 + 1

-- ---- By record
-- whether a record has an edge, from its two bits and the one above
low_case : (x : ℕ) → x < 8 → bit_and (bit_or (x % 4) (x / 2 % 4)) 1 ≡ bit (has_edge (record_of_code (x % 4)))
unfolding has_edge record_of_code odd
low_case zero h = refl
low_case (suc zero) h = refl
low_case (suc (suc zero)) h = refl
low_case (suc (suc (suc zero))) h = refl
low_case (suc (suc (suc (suc zero)))) h = refl
low_case (suc (suc (suc (suc (suc zero))))) h = refl
low_case (suc (suc (suc (suc (suc (suc zero)))))) h = refl
low_case (suc (suc (suc (suc (suc (suc (suc zero))))))) h = refl
low_case (suc (suc (suc (suc (suc (suc (suc (suc x)))))))) h = absurd (omega arith)

-- a record's two bits taken, or none of them
keep_case : (a : ℕ) (c : Bool) → a < 4 → record_of_code (bit_and a (3 * bit c)) ≡ cond c (record_of_code a) empty_record
unfolding record_of_code empty_record odd
keep_case zero true h = refl
keep_case (suc zero) true h = refl
keep_case (suc (suc zero)) true h = refl
keep_case (suc (suc (suc zero))) true h = refl
keep_case (suc (suc (suc (suc a)))) true h = absurd (omega arith)
keep_case a false h = rw (and_zero_r a)

-- a record whose bits are not both set has at most one edge
double_case : (x : ℕ) → x < 8 → bit_and (bit_and (x % 4) (x / 2 % 4)) 1 ≡ 0 → children (record_of_code (x % 4)) ≤ 1
unfolding children record_of_code odd
double_case zero h e = omega arith
double_case (suc zero) h e = omega arith
double_case (suc (suc zero)) h e = omega arith
double_case (suc (suc (suc zero))) h e = absurd (let y : ⊥ = omega arith in y)
double_case (suc (suc (suc (suc zero)))) h e = omega arith
double_case (suc (suc (suc (suc (suc zero))))) h e = omega arith
double_case (suc (suc (suc (suc (suc (suc zero)))))) h e = omega arith
double_case (suc (suc (suc (suc (suc (suc (suc zero))))))) h e = absurd (let y : ⊥ = omega arith in y)
double_case (suc (suc (suc (suc (suc (suc (suc (suc x)))))))) h e = absurd (omega arith)

-- ---- The mask of the records that have an edge
abbrev pub edges_low : ℕ → ℕ → ℕ
edges_low n e = bit_and (bit_or e (e / 2)) (lower n)

low_rest : (n e : ℕ) → edges_low (suc n) e / 4 ≡ edges_low n (e / 4)
unfolding lower
low_rest n e =
    let z : (lower n * 4 + 1) / 4 ≡ lower n = omega arith in
    let y : e / 2 / 4 ≡ e / 4 / 2 = omega arith in
    and_shr (bit_or e (e / 2)) (lower n * 4 + 1) 2 ∙ ap₂ bit_and (or_shr e (e / 2) 2 ∙ ap (bit_or (e / 4)) y) z

low_last : (n e : ℕ) → edges_low (suc n) e % 4 ≡ bit (has_edge (record_of_code (e % 4)))
unfolding lower
low_last n e =
    let z : (lower n * 4 + 1) % 4 ≡ 1 = omega arith in
    let x : e % 8 % 4 ≡ e % 4 = omega arith in
    let y : e % 8 / 2 % 4 ≡ e / 2 % 4 = omega arith in
    and_mod (bit_or e (e / 2)) (lower n * 4 + 1) 2 ∙ ap₂ bit_and (or_mod e (e / 2) 2) z
    ∙ ap₂ (λ a b. bit_and (bit_or a b) 1) (sym x) (sym y) ∙ low_case (e % 8) (omega arith) ∙ ap (λ k. bit (has_edge (record_of_code k))) x

pub low_most : (n e : ℕ) → edges_low n e ≤ lower n
low_most n e = and_le_r (bit_or e (e / 2)) (lower n)

-- so each record's two bits are both set, or both clear
abbrev pub keep_mask : ℕ → ℕ → ℕ
keep_mask n e = edges_low n e * 3

keep_rest : (n e : ℕ) → keep_mask (suc n) e / 4 ≡ keep_mask n (e / 4)
keep_rest n e = omega (arith, low_rest n e, low_last n e, bit_le (has_edge (record_of_code (e % 4))))

keep_last : (n e : ℕ) → keep_mask (suc n) e % 4 ≡ 3 * bit (has_edge (record_of_code (e % 4)))
keep_last n e = omega (arith, low_rest n e, low_last n e, bit_le (has_edge (record_of_code (e % 4))))

kept_append : (l es : List Record) (a b : Record) → length l ≡ length es → kept_singles (l ++ a ∷ []) (es ++ b ∷ []) ≡ kept_singles l es ++ cond (has_edge b) a empty_record ∷ []
unfolding kept_singles
kept_append [] [] a b h = refl
kept_append [] (e ∷ es) a b h = absurd (omega arith)
kept_append (r ∷ l) [] a b h = absurd (omega arith)
kept_append (r ∷ l) (e ∷ es) a b h = ap (λ k. cond (has_edge e) r empty_record ∷ k) (kept_append l es a b (omega arith))

pub keep_records : (n y e : ℕ) → records_of n (bit_and y (keep_mask n e)) ≡ kept_singles (records_of n y) (records_of n e)
unfolding records_of
keep_records zero y e = unfold kept_singles in refl
keep_records (suc n) y e =
    let k : ℕ = keep_mask (suc n) e in
    let rest : bit_and y k / 4 ≡ bit_and (y / 4) (keep_mask n (e / 4)) = and_shr y k 2 ∙ ap (bit_and (y / 4)) (keep_rest n e) in
    let last : bit_and y k % 4 ≡ bit_and (y % 4) (3 * bit (has_edge (record_of_code (e % 4)))) = and_mod y k 2 ∙ ap (bit_and (y % 4)) (keep_last n e) in
    ap₂ (λ a b. records_of n a ++ record_of_code b ∷ []) rest last
    ∙ ap₂ (λ a b. a ++ b ∷ []) (keep_records n (y / 4) (e / 4)) (keep_case (y % 4) (has_edge (record_of_code (e % 4))) (omega arith))
    ∙ sym (kept_append (records_of n (y / 4)) (records_of n (e / 4)) (record_of_code (y % 4)) (record_of_code (e % 4)) (length_run n (y / 4) ∙ sym (length_run n (e / 4))))

-- ---- No record with two edges
abbrev pub both_low : ℕ → ℕ → ℕ
both_low n x = bit_and (bit_and x (x / 2)) (lower n)

both_rest : (n x : ℕ) → both_low (suc n) x / 4 ≡ both_low n (x / 4)
unfolding lower
both_rest n x =
    let z : (lower n * 4 + 1) / 4 ≡ lower n = omega arith in
    let y : x / 2 / 4 ≡ x / 4 / 2 = omega arith in
    and_shr (bit_and x (x / 2)) (lower n * 4 + 1) 2 ∙ ap₂ bit_and (and_shr x (x / 2) 2 ∙ ap (bit_and (x / 4)) y) z

both_last : (n x : ℕ) → both_low (suc n) x ≡ 0 → children (record_of_code (x % 4)) ≤ 1
unfolding lower
both_last n x h =
    let z : (lower n * 4 + 1) % 4 ≡ 1 = omega arith in
    let u : x % 8 % 4 ≡ x % 4 = omega arith in
    let v : x % 8 / 2 % 4 ≡ x / 2 % 4 = omega arith in
    let e : bit_and (bit_and (x % 8 % 4) (x % 8 / 2 % 4)) 1 ≡ 0 =
    ap₂ (λ a b. bit_and (bit_and a b) 1) u v
    ∙ sym (and_mod (bit_and x (x / 2)) (lower n * 4 + 1) 2 ∙ ap₂ bit_and (and_mod x (x / 2) 2) z) ∙ ap (λ k. k % 4) h in
    rw u at (double_case (x % 8) (omega arith) e)

pub singles : (n x : ℕ) → both_low n x ≡ 0 → (k : ℕ) → k < n → children (get_or (records_of n x) k empty_record) ≤ 1
unfolding records_of
singles zero x h k l = absurd (omega arith)
singles (suc n) x h k l =
    let len : length (records_of n (x / 4)) ≡ n = length_run n (x / 4) in
    elim (dec_le (suc k) n) [
      | yes y ↦
          let z : k < length (records_of n (x / 4)) = omega arith in
          rw (get_or-append (records_of n (x / 4)) (record_of_code (x % 4) ∷ []) empty_record k z)
          (singles n (x / 4) (sym (both_rest n x) ∙ ap (λ t. t / 4) h) k y)
      | no y ↦
          let z : k ≡ length (records_of n (x / 4)) = omega arith in
          rw (z, get_or-append_seam (records_of n (x / 4)) (record_of_code (x % 4)) [] empty_record) (both_last n x h)
    ]

-- ---- In bytes
pub record_in : (l : Bytes) (i n k : ℕ) → k < n → get_or (records_at l i n) k empty_record ≡ record_at l (i + k)
unfolding records_at
record_in l i n k h = get_d_tabulate (λ k. record_at l (i + k)) n k empty_record h

get_d_kept : (l es : List Record) (k : ℕ) → k < length l → k < length es
    → get_or (kept_singles l es) k empty_record ≡ cond (has_edge (get_or es k empty_record)) (get_or l k empty_record) empty_record
unfolding kept_singles
get_d_kept [] es k h g = absurd (omega arith)
get_d_kept (r ∷ l) [] k h g = absurd (omega arith)
get_d_kept (r ∷ l) (e ∷ es) zero h g = refl
get_d_kept (r ∷ l) (e ∷ es) (suc k) h g = get_d_kept l es k (omega arith) (omega arith)

single_here : (q : Bytes) {z p : Bytes} {i d : ℕ} → SinglesMarked (records_at q i 16) z i d p → (k : ℕ) → k < 16 → record_at p (i + k) ≡ cond (has_edge (record_at z (d + k))) (record_at q (i + k)) empty_record
single_here q {z} {p} {i} {d} v k h =
    sym (record_in p i 16 k h) ∙ ap (λ l. get_or l k empty_record) v.here
    ∙ get_d_kept (records_at q i 16) (records_at z d 16) k (omega (arith, length_at q i 16)) (omega (arith, length_at z d 16))
    ∙ ap₂ (λ a b. cond (has_edge a) b empty_record) (record_in z d 16 k h) (record_in q i 16 k h)

-- four bytes set, and the others as they were
module _ (q : Bytes) (j a b c d : ℕ) (room : j + 3 < length q) where
  abbrev pub four_set : Bytes
  four_set = set (set (set (set q j a) (j + 1) b) (j + 2) c) (j + 3) d

  pub four_size : length four_set ≡ length q
  four_size = simp length-set refl

  pub four_other : (k : ℕ) → (j ≤ k → k < j + 4 → ⊥) → get_or four_set k 0 ≡ get_or q k 0
  four_other k h =
      get_or-set_other (set (set (set q j a) (j + 1) b) (j + 2) c) (j + 3) k d 0 (λ e. h (omega arith) (omega arith))
      ∙ get_or-set_other (set (set q j a) (j + 1) b) (j + 2) k c 0 (λ e. h (omega arith) (omega arith))
      ∙ get_or-set_other (set q j a) (j + 1) k b 0 (λ e. h (omega arith) (omega arith))
      ∙ get_or-set_other q j k a 0 (λ e. h (omega arith) (omega arith))

  pub four_0 : get_or four_set j 0 ≡ a
  four_0 =
      get_or-set_other (set (set (set q j a) (j + 1) b) (j + 2) c) (j + 3) j d 0 (λ e. omega arith)
      ∙ get_or-set_other (set (set q j a) (j + 1) b) (j + 2) j c 0 (λ e. omega arith)
      ∙ get_or-set_other (set q j a) (j + 1) j b 0 (λ e. omega arith)
      ∙ get_or-set_same q j a 0 (omega arith)

  pub four_1 : get_or four_set (j + 1) 0 ≡ b
  four_1 =
      get_or-set_other (set (set (set q j a) (j + 1) b) (j + 2) c) (j + 3) (j + 1) d 0 (λ e. omega arith)
      ∙ get_or-set_other (set (set q j a) (j + 1) b) (j + 2) (j + 1) c 0 (λ e. omega arith)
      ∙ get_or-set_same (set q j a) (j + 1) b 0 (simp length-set (omega arith))

  pub four_2 : get_or four_set (j + 2) 0 ≡ c
  four_2 =
      get_or-set_other (set (set (set q j a) (j + 1) b) (j + 2) c) (j + 3) (j + 2) d 0 (λ e. omega arith)
      ∙ get_or-set_same (set (set q j a) (j + 1) b) (j + 2) c 0 (simp length-set (omega arith))

  pub four_3 : get_or four_set (j + 3) 0 ≡ d
  four_3 = get_or-set_same (set (set (set q j a) (j + 1) b) (j + 2) c) (j + 3) d 0 (simp length-set (omega arith))

  -- sixteen records in a number put into them
  pub four_marked : (l : List Record) (i e z : ℕ) → i ≡ 4 * j → z < 2 ^ 32 → a ≡ z / 2 ^ 24 → b ≡ z / 2 ^ 16 % 256 → c ≡ z / 2 ^ 8 % 256 → d ≡ z % 256
      → records_of 16 z ≡ kept_singles l (records_at q e 16) → SinglesMarked l q i e four_set
  four_marked l i e z ei h ea eb ec ed k =
      let sum : a * 16777216 + b * 65536 + c * 256 + d ≡ z = omega arith in
      record {
        here =
            ap (λ t. records_at four_set t 16) ei ∙ sym (sixteen four_set j a b c d (sym four_0) (sym four_1) (sym four_2) (sym four_3) (omega arith) (omega arith) (omega arith))
            ∙ ap (records_of 16) sum ∙ k;
        other = λ m f.
            let g : get_or four_set (m / 4) 0 ≡ get_or q (m / 4) 0 = four_other (m / 4) (λ x y. f (omega arith) (omega arith)) in
            code_at four_set m ∙ rw g (sym (code_at q m));
        size = four_size;
      }

-- ---- Sixteen records marked are one by one marked, from the last to the first
mask_single : (f : ℕ → Bool) (d : ℕ) (s : Record) → children s ≡ 1 → mask_at f d s ≡ cond (f d) s empty_record
unfolding mask_at children empty_record
mask_single f d s h = go s.on_zero s.on_one (f d) refl h
  where
    go : (a b c : Bool) → f d ≡ c → bit a + bit b ≡ 1 → ◌≡◌ {A = Record} (record { on_zero = a && f d; on_one = b && f (d + bit a) }) (cond c (record { on_zero = a; on_one = b }) (record { on_zero = false; on_one = false }))
    go true true c e h = absurd (let y : ⊥ = omega arith in y)
    go true false true e h = rw e
    go true false false e h = rw e
    go false true true e h = let z : d + 0 ≡ d = omega arith in rw (z, e)
    go false true false e h = let z : d + 0 ≡ d = omega arith in rw (z, e)
    go false false c e h = absurd (let y : ⊥ = omega arith in y)

past : (i k l : ℕ) → i - suc k ≤ l → (l ≡ i - suc k → ⊥) → i - k ≤ l
past i k l h e = omega arith

module _ {w : ℕ} {q : Bytes} {r n : ℕ} (a : Entries q r n) (p u : Bytes) (i c : ℕ) (v : Marking w q r n i c p) (m : SingleRoom p r i c) (t : SinglesMarked (records_at p (i - 16) 16) p (i - 16) (c - 16) u) where
  -- the last k of them done
  record Done (k : ℕ) (O : Bytes) : Type 0 where
    marking : Marking w q r n (i - k) (c - k) O
    done : (j : ℕ) → i - k ≤ j → record_at O j ≡ record_at u j
    left : (j : ℕ) → j < i - k → record_at O j ≡ record_at p j
    size : length O ≡ length p

  behind : (j : ℕ) → i ≤ j → record_at u j ≡ record_at p j
  behind j h = t.other j (λ x y. omega (arith, m.block))

  kept_there : (d : ℕ) → d < r → kept_at w p p r d ≡ has_edge (record_at p d)
  unfolding kept_at
  kept_there d h = rw (lt_yes d r h)

  one : (j : ℕ) → i ≤ j + 16 → j < i → children (record_at q j) ≡ 1
  one j h g = let e = v.front j g in omega (arith, rw e at (m.single j h g), a.full j (omega (arith, v.low)))

  next : (k : ℕ) → k < 16 → (O : Bytes) → Done k O → (P : Bytes) × Done (suc k) P
  next k h O o =
      let j : ℕ = i - suc k in
      let d : ℕ = c - suc k in
      let x : ℕ = code_in (get_or q (j / 4) 0) (j % 4) in
      let ex : record_of_code x ≡ record_at q j = sym (code_at q j) in
      let inside : j < i = omega (arith, m.block) in
      let single : children (record_of_code x) ≡ 1 = ap children ex ∙ one j (omega (arith, m.block)) inside in
      let s = step a p O i j (i - k) (c - k) d x (omega (arith, m.block)) (omega (arith, m.behind)) o.marking
      (λ l g. kept_same w O p r l (o.done l (omega arith) ∙ behind l g)) o.size (unfold code_in in omega arith) ex inside (omega (arith, m.behind, m.block)) (omega (arith, m.queue, m.behind, m.block)) in
      let t0 = s.1 in
      let f : i - 16 + (15 - k) ≡ j = omega (arith, m.block) in
      let g : c - 16 + (15 - k) ≡ d = omega (arith, m.behind) in
      let here : record_at s.0 j ≡ record_at u j =
      t0.here ∙ mask_single (kept_at w p p r) d (record_of_code x) single
      ∙ ap₂ (λ b y. cond b y empty_record) (kept_there d (omega (arith, m.records, m.behind))) (ex ∙ sym (v.front j inside))
      ∙ sym (rw (f, g) at (single_here p t (15 - k) (omega arith))) in (
        s.0,
        record {
          marking = t0.marking;
          done = λ l y. elim (ℕ_discrete l j) [
            | yes e ↦ rw e here
            | no e ↦ t0.other l e ∙ o.done l (past i k l y e)
          ];
          left = λ l y. t0.other l (λ e. omega arith) ∙ o.left l (omega arith);
          size = t0.size;
        },
      )

  after : (k : ℕ) → k ≤ 16 → (O : Bytes) × Done k O
  after zero h = let z : i - 0 ≡ i = omega arith in let y : c - 0 ≡ c = omega arith in (p, record { marking = rw (z, y) v; done = λ j g. sym (behind j (omega arith)); left = λ j g. refl; size = refl })
  after (suc k) h = let o = after k (omega arith) in next k h o.0 o.1

  pub singles_marked : Marking w q r n (i - 16) (c - 16) u
  singles_marked =
      let o = after 16 (omega arith) in
      marking_same (i - 16) o.1.marking refl (λ j. elim (dec_le (i - 16) j) [
        | yes g ↦ sym (o.1.done j g)
        | no g ↦ t.other j (λ x y. absurd (g x)) ∙ sym (o.1.left j (omega arith))
      ]) (t.size ∙ sym o.1.size)
