-- Marking four records at a time.
use mathlib.Core.Path.{◌≡◌, refl, sym, ap, ap₂, ◌∙◌}
use Prim.Native.Nat.{ℕ, zero, suc, ◌+◌, ◌-◌, ◌*◌, ◌/◌, ◌%◌, ◌≤◌, ◌<◌}
use mathlib.Core.Bool.{Bool, true, false, ◌&&◌, cond}
use mathlib.Core.List.{List, [], ◌∷◌, ◌++◌, map}
use native.Mathlib.Omega.{arith}
use native.Mathlib.Decide.{ℕ_discrete, dec_le}
use lib.ListN.{length, get_or, drop, set, length-set}
use lib.Seq.{get_or-set_same, get_or-set_other}
use lib.Dec.{ltb, eqb}
use Rattle.loes.specs.Bytes.{Bytes, bit, odd, tabulate}
use Rattle.loes.specs.Edges.{Record}
use Rattle.loes.proofs.Tests.{lt_yes, lt_no, eq_no}
use Rattle.loes.proofs.Tree.{bit_le}
use Rattle.loes.proofs.Bits.{tabulate_ext}
use Rattle.records.specs.Records.{empty_record, has_edge, children, record_of_code, record_at, records_at, next_of, rest_of, flag_at, is_flag, flag_of_record, first_count, second_count, with_record, Put}
use Rattle.records.specs.Numbers.{records_of, bits_of}
use Rattle.records.specs.Tables.{spread, kept_by}
use Rattle.restrict.specs.declared.members.Members.{Members}
use Rattle.restrict.specs.declared.members.Members.TheVariants.{FirstOnly, SecondOnly, Both}
use Rattle.restrict.specs.Flags.{member_flag}
use Rattle.restrict.specs.Restriction.{kept_at, Entries, RecordMarked, mask_at, masked_at, child_count, MarkRoom}
use Rattle.records.proofs.Codes.{cases4, odd_eq, record_eq, code_at, put_ok, records_same}
use Rattle.records.proofs.Numbers.{cat, at_add, length_run, byte_run, halves}
use Rattle.restrict.proofs.Marking.{Marking, and_eq, children_code, kept_code, marked_ok, mark_more}

-- ---- On lists of records
count_append : (l m : List Record) → child_count (l ++ m) ≡ child_count l + child_count m
unfolding child_count
count_append [] m = omega arith
count_append (r ∷ l) m = rw (count_append l m) (omega arith)

count_le : (l : List Record) → child_count l ≤ 2 * length l
unfolding child_count children
count_le [] = omega arith
count_le (r ∷ l) = omega (arith, bit_le r.on_zero, bit_le r.on_one, count_le l)

masked_append : (f : ℕ → Bool) (c : ℕ) (l m : List Record) → masked_at f c (l ++ m) ≡ masked_at f c l ++ masked_at f (c + child_count l) m
unfolding masked_at child_count
masked_append f c [] m = let z : c + 0 ≡ c = omega arith in rw z
masked_append f c (r ∷ l) m =
    let z : c + (children r + child_count l) ≡ c + children r + child_count l = omega arith in
    rw z (ap (λ t. mask_at f c r ∷ t) (masked_append f (c + children r) l m))

-- only the entries of the edges count
pub mask_ext : (f g : ℕ → Bool) (c : ℕ) (r : Record) → ((m : ℕ) → m < children r → f (c + m) ≡ g (c + m)) → mask_at f c r ≡ mask_at g c r
unfolding mask_at children
mask_ext f g c r h =
    let z : c + 0 ≡ c = omega arith in
    record_eq
    (and_eq r.on_zero (f c) (g c) (λ e. rw z at (h 0 (rw e (omega arith)))))
    (and_eq r.on_one (f (c + bit r.on_zero)) (g (c + bit r.on_zero)) (λ e. h (bit r.on_zero) (rw e (omega arith))))

pub masked_ext : (f g : ℕ → Bool) (c : ℕ) (l : List Record) → ((m : ℕ) → m < child_count l → f (c + m) ≡ g (c + m)) → masked_at f c l ≡ masked_at g c l
unfolding masked_at child_count
masked_ext f g c [] h = refl
masked_ext f g c (r ∷ l) h =
    ap₂ (λ a b. a ∷ b) (mask_ext f g c r (λ m k. h m (omega arith)))
    (masked_ext f g (c + children r) l (λ m k.
    let z : c + (children r + m) ≡ c + children r + m = omega arith in
    rw z at (h (children r + m) (omega arith))))

-- ---- How many edges
pub count_parts : (l : List Record) → first_count (map flag_of_record l) + second_count (map flag_of_record l) ≡ child_count l
unfolding first_count second_count flag_of_record child_count children
count_parts [] = refl
count_parts (r ∷ l) = omega (arith, count_parts l)

pub count_half : (x : ℕ) → child_count (records_of 2 x) ≤ 4
count_half x = omega (arith, count_le (records_of 2 x), length_run 2 x)

pub count_low : (x : ℕ) → x < 16 → child_count (records_of 4 x) ≡ child_count (records_of 2 x)
count_low x h =
    let a : x / 16 ≡ 0 = omega arith in
    let b : x % 16 ≡ x = omega arith in
    let z : child_count (records_of 2 0) ≡ 0 = unfold records_of record_of_code child_count children odd in refl in
    let e = ap child_count (halves x) ∙ count_append (records_of 2 (x / 16)) (records_of 2 (x % 16)) in
    rw (a, b, z) at e ∙ omega arith

-- ---- Bits whose entries, from c on, are not kept, cleared
unfoldable masked_bits : (ℕ → Bool) → ℕ → List Bool → List Bool
masked_bits f c [] = []
masked_bits f c (b ∷ bs) = (b && f c) ∷ masked_bits f (c + bit b) bs

at_cons : (q : Bytes) (d n : ℕ) → records_at q d (suc n) ≡ record_at q d ∷ records_at q (d + 1) n
at_cons q d n =
    let z : 1 + n ≡ suc n = omega arith in
    let y : d + 0 ≡ d = omega arith in
    let e : records_at q d 1 ≡ record_at q (d + 0) ∷ [] = unfold records_at tabulate in refl in
    rw z at (at_add q d 1 n) ∙ rw (e, y)

-- the records spread, each kept or not
spread_kept : (k : Record → Bool) → k empty_record ≡ false → (q : Bytes) (bs : List Bool) (d n : ℕ) → length bs ≤ n
    → map k (spread bs (records_at q d n)) ≡ masked_bits (λ m. k (record_at q m)) d bs
unfolding spread next_of rest_of masked_bits
spread_kept k z q [] d n h = refl
spread_kept k z q (true ∷ bs) d zero h = absurd (omega arith)
spread_kept k z q (true ∷ bs) d (suc n) h = rw (at_cons q d n) (ap (λ t. k (record_at q d) ∷ t) (spread_kept k z q bs (d + 1) n (omega arith)))
spread_kept k z q (false ∷ bs) d n h =
    let y : d + 0 ≡ d = omega arith in
    rw (z, y) (ap (λ t. false ∷ t) (spread_kept k z q bs d n (omega arith)))

kept_empty : (w : ℕ) → kept_by w empty_record ≡ false
unfolding kept_by empty_record has_edge is_flag flag_of_record
kept_empty zero = refl
kept_empty (suc w) =
    let a : eqb (suc w) 0 ≡ false = eq_no (suc w) 0 (λ f. omega arith) in
    let b : eqb 0 (suc w) ≡ false = eq_no 0 (suc w) (λ f. omega arith) in
    rw (a, b)

-- two records as four bits
abbrev pairs : List Bool → List Record
pairs l = record { on_zero = get_or l 0 false; on_one = get_or l 1 false } ∷ record { on_zero = get_or l 2 false; on_one = get_or l 3 false } ∷ []

bits_pairs : (x : ℕ) → records_of 2 x ≡ pairs (bits_of 4 x)
unfolding records_of record_of_code bits_of
bits_pairs x =
    ap₂ (λ s t. s ∷ t ∷ []) (record_eq (odd_eq _ _ (omega arith)) (odd_eq _ _ (omega arith))) (record_eq (odd_eq _ _ (omega arith)) (odd_eq _ _ (omega arith)))

pairs_masked : (f : ℕ → Bool) (d x : ℕ) → pairs (masked_bits f d (bits_of 4 x)) ≡ masked_at f d (pairs (bits_of 4 x))
unfolding bits_of masked_bits masked_at mask_at children
pairs_masked f d x =
    let z : d + (bit (odd (x / 2 / 2 / 2)) + bit (odd (x / 2 / 2))) ≡ d + bit (odd (x / 2 / 2 / 2)) + bit (odd (x / 2 / 2)) = omega arith in
    rw z

pub half_ok : (q : Bytes) (w d x z v : ℕ) → records_of 4 v ≡ records_at q d 4 → bits_of 4 z ≡ map (kept_by w) (spread (bits_of 4 x) (records_of 4 v))
    → records_of 2 z ≡ masked_at (λ m. kept_by w (record_at q m)) d (records_of 2 x)
half_ok q w d x z v e h =
    let n : length (bits_of 4 x) ≤ 4 = unfold bits_of in omega arith in
    let f : ℕ → Bool = λ m. kept_by w (record_at q m) in
    bits_pairs z ∙ ap pairs (h ∙ ap (λ t. map (kept_by w) (spread (bits_of 4 x) t)) e ∙ spread_kept (kept_by w) (kept_empty w) q (bits_of 4 x) d 4 n) ∙ pairs_masked f d x ∙ ap (masked_at f d) (sym (bits_pairs x))

-- ---- Two halves
pub byte_ok : (f : ℕ → Bool) (x d a b n : ℕ) → n ≡ child_count (records_of 2 (x / 16)) → records_of 2 a ≡ masked_at f d (records_of 2 (x / 16)) → records_of 2 b ≡ masked_at f (d + n) (records_of 2 (x % 16)) → b < 16
    → records_of 4 (a * 16 + b) ≡ masked_at f d (records_of 4 x)
byte_ok f x d a b n en ea eb h =
    cat 2 2 a b h ∙ ap₂ (λ s t. s ++ t) ea (eb ∙ ap (λ t. masked_at f (d + t) (records_of 2 (x % 16))) en)
    ∙ sym (masked_append f d (records_of 2 (x / 16)) (records_of 2 (x % 16))) ∙ ap (masked_at f d) (sym (halves x))

-- ---- The test of an entry: of a record, and of a member
pub kept_edge : (w : ℕ) (z q : Bytes) (r m : ℕ) → m < r → kept_by 0 (record_at z m) ≡ kept_at w z q r m
unfolding kept_at kept_by
kept_edge w z q r m h = rw (lt_yes m r h)

pub kept_member : (w : ℕ) (z q : Bytes) (r m : ℕ) → 1 ≤ w → r ≤ m → kept_by w (record_at q m) ≡ kept_at w z q r m
unfolding kept_at kept_by flag_at
kept_member w z q r m h l = let e : eqb w 0 ≡ false = eq_no w 0 (λ f. omega arith) in rw (lt_no m r l, e)

-- a flag is no test of records
pub some_member : (m : Members) → 1 ≤ member_flag m
some_member FirstOnly = omega arith
some_member SecondOnly = omega arith
some_member Both = omega arith

kept_test : (w : ℕ) (p : Bytes) (r d t k : ℕ) → 1 ≤ w → t ≡ cond (ltb d r) 0 w → (d < r → d + k ≤ r) → (m : ℕ) → m < k → kept_by t (record_at p (d + m)) ≡ kept_at w p p r (d + m)
kept_test w p r d t k h et s m l = elim (dec_le (suc d) r) [
  | yes y ↦ rw (et, lt_yes d r y) (kept_edge w p p r (d + m) (omega (arith, s y)))
  | no y ↦ rw (et, lt_no d r (omega arith)) (kept_member w p p r (d + m) h (omega arith))
]

-- ---- A byte marked is four records marked, from the last to the first
-- record i of P marked, which gives O; the entries from b on are those of p
pub record MarkStep (w : ℕ) (q : Bytes) (r n : ℕ) (p : Bytes) (b i d : ℕ) (P O : Bytes) (s : Record) : Type 0 where
  pub marking : Marking w q r n i d O
  pub kept : (m : ℕ) → b ≤ m → kept_at w O O r m ≡ kept_at w p p r m
  pub size : length O ≡ length p
  pub here : record_at O i ≡ mask_at (kept_at w p p r) d s
  pub other : (m : ℕ) → (m ≡ i → ⊥) → record_at O m ≡ record_at P m

pub kept_same : (w : ℕ) (o p : Bytes) (r m : ℕ) → record_at o m ≡ record_at p m → kept_at w o o r m ≡ kept_at w p p r m
unfolding kept_at flag_at
kept_same w o p r m e = rw e

pub step : {w : ℕ} {q : Bytes} {r n : ℕ} → Entries q r n → (p P : Bytes) (b i k c d x : ℕ) → k ≡ suc i → c ≡ d + children (record_of_code x) → Marking w q r n k c P
    → ((m : ℕ) → b ≤ m → kept_at w P P r m ≡ kept_at w p p r m) → length P ≡ length p → x < 4 → record_of_code x ≡ record_at q i → i < b → b ≤ d → i / 4 < length p
    → (O : Bytes) × MarkStep w q r n p b i d P O (record_of_code x)
step {w} {q} {r} {n} a p P b i k c d x ek ec v same size small ex hi hd room =
    let z : c - (x / 2 + x % 2) ≡ d = omega (arith, children_code x small) in
    let A : ℕ = bit (odd (x / 2) && kept_at w P P r d) in
    let B : ℕ = bit (odd x && kept_at w P P r (d + x / 2)) in
    let y : ℕ = with_record (get_or P (i / 4) 0) (i % 4) (A * 2 + B) in
    let O : Bytes = set P (i / 4) y in
    let l : A * 2 + B < 4 = omega (arith, bit_le (odd (x / 2) && kept_at w P P r d), bit_le (odd x && kept_at w P P r (d + x / 2))) in
    let put : Put i (A * 2 + B) P O = put_ok P i (A * 2 + B) y (omega arith) l refl in
    let t : RecordMarked w P r (record_of_code x) P i d O = marked_ok (kept_code (kept_at w P P r) d x A B small refl refl) put in
    let t' : RecordMarked w P r (record_of_code x) P i (c - (x / 2 + x % 2)) O = rw z t in (
      O,
      record {
        marking = rw z at (mark_more a (rw ek at v) small ex t');
        kept = λ m h. kept_same w O P r m (put.other m (λ f. omega arith)) ∙ same m h;
        size = put.size ∙ size;
        here = t.here ∙ mask_ext (kept_at w P P r) (kept_at w p p r) d (record_of_code x) (λ m k. same (d + m) (omega arith));
        other = put.other;
      },
    )

pub marking_same : {w : ℕ} {q : Bytes} {r n k c : ℕ} {o p : Bytes} (i : ℕ) → Marking w q r n k c o → k ≡ i → ((m : ℕ) → record_at p m ≡ record_at o m) → length p ≡ length o → Marking w q r n i c p
marking_same {r} {o} {p} i h y same size =
    let v = rw y at h in
    record {
      out = ap (drop i) (records_same p o r (λ m h. same m)) ∙ v.out;
      next = v.next;
      low = v.low;
      front = λ m h. same m ∙ v.front m h;
      other = λ m h. same m ∙ v.other m h;
      size = size ∙ v.size;
    }

module _ {w : ℕ} {q : Bytes} {r n : ℕ} (a : Entries q r n) (p u : Bytes) (j c d : ℕ) where
  four_steps : (x0 x1 x2 x3 : ℕ) → x0 < 4 → x1 < 4 → x2 < 4 → x3 < 4
      → record_of_code x0 ≡ record_at q (4 * j + 0) → record_of_code x1 ≡ record_at q (4 * j + 1) → record_of_code x2 ≡ record_at q (4 * j + 2) → record_of_code x3 ≡ record_at q (4 * j + 3)
      → Marking w q r n (4 * j + 4) c p → 4 * j + 4 ≤ d
      → c ≡ d + children (record_of_code x0) + children (record_of_code x1) + children (record_of_code x2) + children (record_of_code x3) → j < length p
      → record_at u (4 * j + 0) ≡ mask_at (kept_at w p p r) d (record_of_code x0)
      → record_at u (4 * j + 1) ≡ mask_at (kept_at w p p r) (d + children (record_of_code x0)) (record_of_code x1)
      → record_at u (4 * j + 2) ≡ mask_at (kept_at w p p r) (d + children (record_of_code x0) + children (record_of_code x1)) (record_of_code x2)
      → record_at u (4 * j + 3) ≡ mask_at (kept_at w p p r) (d + children (record_of_code x0) + children (record_of_code x1) + children (record_of_code x2)) (record_of_code x3)
      → ((m : ℕ) → (m / 4 ≡ j → ⊥) → record_at u m ≡ record_at p m) → length u ≡ length p → Marking w q r n (4 * j) d u
  four_steps x0 x1 x2 x3 l0 l1 l2 l3 e0 e1 e2 e3 v hd hc room u0 u1 u2 u3 other size =
      let b : ℕ = 4 * j + 4 in
      let k0 : ℕ = children (record_of_code x0) in
      let k1 : ℕ = children (record_of_code x1) in
      let k2 : ℕ = children (record_of_code x2) in
      let s3 = step a p p b (4 * j + 3) b c (d + k0 + k1 + k2) x3 (omega arith) hc v (λ m h. refl) refl l3 e3 (omega arith) (omega arith) (omega arith) in
      let t3 = s3.1 in
      let s2 = step a p s3.0 b (4 * j + 2) (4 * j + 3) (d + k0 + k1 + k2) (d + k0 + k1) x2 (omega arith) refl t3.marking t3.kept t3.size l2 e2 (omega arith) (omega arith) (omega arith) in
      let t2 = s2.1 in
      let s1 = step a p s2.0 b (4 * j + 1) (4 * j + 2) (d + k0 + k1) (d + k0) x1 (omega arith) refl t2.marking t2.kept t2.size l1 e1 (omega arith) (omega arith) (omega arith) in
      let t1 = s1.1 in
      let s0 = step a p s1.0 b (4 * j + 0) (4 * j + 1) (d + k0) d x0 (omega arith) refl t1.marking t1.kept t1.size l0 e0 (omega arith) hd (omega arith) in
      let t0 = s0.1 in
      let h0 : record_at u (4 * j + 0) ≡ record_at s0.0 (4 * j + 0) = u0 ∙ sym t0.here in
      let h1 : record_at u (4 * j + 1) ≡ record_at s0.0 (4 * j + 1) = u1 ∙ sym (t0.other (4 * j + 1) (λ g. omega arith) ∙ t1.here) in
      let h2 : record_at u (4 * j + 2) ≡ record_at s0.0 (4 * j + 2) = u2 ∙ sym (t0.other (4 * j + 2) (λ g. omega arith) ∙ t1.other (4 * j + 2) (λ g. omega arith) ∙ t2.here) in
      let h3 : record_at u (4 * j + 3) ≡ record_at s0.0 (4 * j + 3) =
      u3 ∙ sym (t0.other (4 * j + 3) (λ g. omega arith) ∙ t1.other (4 * j + 3) (λ g. omega arith) ∙ t2.other (4 * j + 3) (λ g. omega arith) ∙ t3.here) in
      let z : 4 * j + 0 ≡ 4 * j = omega arith in
      marking_same (4 * j) t0.marking z (λ m.
      elim (ℕ_discrete (m / 4) j) [
        | yes y ↦
            let k : 4 * j + m % 4 ≡ m = omega arith in
            rw k at (cases4 (λ t. record_at u (4 * j + t) ≡ record_at s0.0 (4 * j + t)) h0 h1 h2 h3 (m % 4) (omega arith))
        | no y ↦
            other m y ∙ sym (t0.other m (λ g. y (omega arith)) ∙ t1.other m (λ g. y (omega arith)) ∙ t2.other m (λ g. y (omega arith)) ∙ t3.other m (λ g. y (omega arith)))
      ]) (size ∙ sym t0.size)

  pub mark_block : (x : ℕ) → records_at q (4 * j) 4 ≡ records_of 4 x → Marking w q r n (4 * j + 4) c p → 4 * j + 4 ≤ d → c ≡ d + child_count (records_of 4 x) → j < length p
      → records_at u (4 * j) 4 ≡ masked_at (kept_at w p p r) d (records_of 4 x) → ((m : ℕ) → (m / 4 ≡ j → ⊥) → record_at u m ≡ record_at p m) → length u ≡ length p → Marking w q r n (4 * j) d u
  unfolding records_at tabulate records_of masked_at child_count
  mark_block x run v hd hc room here other size =
      four_steps (x / 4 / 4 / 4 % 4) (x / 4 / 4 % 4) (x / 4 % 4) (x % 4) (omega arith) (omega arith) (omega arith) (omega arith)
      (sym (ap (λ l. get_or l 0 empty_record) run)) (sym (ap (λ l. get_or l 1 empty_record) run)) (sym (ap (λ l. get_or l 2 empty_record) run)) (sym (ap (λ l. get_or l 3 empty_record) run)) v hd
      (hc ∙ sums d (children (record_of_code (x / 4 / 4 / 4 % 4))) (children (record_of_code (x / 4 / 4 % 4))) (children (record_of_code (x / 4 % 4))) (children (record_of_code (x % 4)))) room
      (ap (λ l. get_or l 0 empty_record) here) (ap (λ l. get_or l 1 empty_record) here) (ap (λ l. get_or l 2 empty_record) here) (ap (λ l. get_or l 3 empty_record) here) other size
    where
      sums : (d a b c e : ℕ) → d + (a + (b + (c + (e + 0)))) ≡ d + a + b + c + e
      sums d a b c e = omega arith

-- the byte of record i - 1 is as it was
pub byte_front : {w : ℕ} {q : Bytes} {r n i c : ℕ} {p : Bytes} → Marking w q r n i c p → 0 < i → i % 4 ≡ 0 → records_at q (4 * ((i - 1) / 4)) 4 ≡ records_of 4 (get_or p ((i - 1) / 4) 0)
unfolding records_at
byte_front {q} {i} {p} v h e =
    let j : ℕ = (i - 1) / 4 in
    tabulate_ext (λ k. record_at q (4 * j + k)) (λ k. record_at p (4 * j + k)) 4 (λ k l. sym (v.front (4 * j + k) (omega arith))) ∙ byte_run p j

pub marked_byte : {w : ℕ} {q : Bytes} {r n : ℕ} → Entries q r n → 1 ≤ w → (p : Bytes) (i c k x t z : ℕ) → 0 < i → records_at q (4 * ((i - 1) / 4)) 4 ≡ records_of 4 x → Marking w q r n i c p
    → MarkRoom r i k c (length p) → k ≡ child_count (records_of 4 x) → (i - 1) / 4 < length p → t ≡ cond (ltb (c - k) r) 0 w
    → records_of 4 z ≡ masked_at (λ m. kept_by t (record_at p m)) (c - k) (records_of 4 x)
    → Marking w q r n (i - 4) (c - k) (set p ((i - 1) / 4) z)
marked_byte {w} {q} {r} {n} a one p i c k x t z h ex v m ek room et ez =
    let j : ℕ = (i - 1) / 4 in
    let u : Bytes = set p j z in
    let y4 : i ≡ 4 * j + 4 = omega (arith, m.whole) in
    let y0 : 4 * j ≡ i - 4 = omega arith in
    let ec : c ≡ c - k + child_count (records_of 4 x) = omega (arith, m.less) in
    let here : records_at u (4 * j) 4 ≡ masked_at (kept_at w p p r) (c - k) (records_of 4 x) =
    byte_run u j ∙ ap (records_of 4) (get_or-set_same p j z 0 room) ∙ ez
    ∙ masked_ext (λ o. kept_by t (record_at p o)) (kept_at w p p r) (c - k) (records_of 4 x) (kept_test w p r (c - k) t (child_count (records_of 4 x)) one et (λ y. omega (arith, m.same y, ec))) in
    let hd : 4 * j + 4 ≤ c - k = omega (arith, m.behind) in
    let other : (o : ℕ) → (o / 4 ≡ j → ⊥) → record_at u o ≡ record_at p o = λ o f.
    let g : get_or u (o / 4) 0 ≡ get_or p (o / 4) 0 = get_or-set_other p j (o / 4) z 0 f in
    code_at u o ∙ rw g (sym (code_at p o)) in
    rw y0 at (mark_block a p u j c (c - k) x ex (rw y4 at v) hd ec room here other (length-set p j z))
