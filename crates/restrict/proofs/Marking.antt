-- Restricting in bytes, from the last record to the first.
use mathlib.Core.Path.{◌≡◌, refl, sym, ap, ap₂, ◌∙◌}
use Prim.Native.Nat.{ℕ, zero, suc, ◌+◌, ◌-◌, ◌*◌, ◌/◌, ◌%◌, ◌≤◌, ◌<◌}
use mir.Val.{bool_byte}
use mathlib.Core.Bool.{Bool, true, false, ◌&&◌}
use mathlib.Core.List.{List, [], ◌∷◌, ◌++◌, map}
use native.Mathlib.Omega.{arith}
use native.Mathlib.Decide.{dec_le, le_ind}
use lib.ListN.{length, get_or, drop, length-map, get_or-append, drop_of_length-le}
use lib.Seq.{drop-cons, get_or-append-add, get_or-drop}
use lib.Dec.{ltb}
use Rattle.loes.specs.Bytes.{Bytes, bit, odd, tabulate}
use Rattle.loes.specs.Edges.{Record}
use Rattle.loes.proofs.Tests.{lt_yes, lt_no}
use Rattle.loes.proofs.Lists.{get_d_map_in}
use Rattle.loes.proofs.Bytes.{length_tabulate, get_d_tabulate}
use Rattle.loes.proofs.Bits.{tabulate_ext, bit_odd, drop_tabulate}
use Rattle.records.specs.Records.{empty_record, has_edge, children, children_before, record_of_code, code_in, record_at, records_to, flag_at, is_flag, Put}
use Rattle.restrict.specs.Restriction.{mask_at, mask_record, masked_from, flag_mask, kept_at, Entries, RecordMarked, Marks, Marked}
use Rattle.records.proofs.Codes.{cases4, record_eq, code_at}

-- ---- One record
bits_code : (u v : Bool) → record_of_code (bit u * 2 + bit v) ≡ record { on_zero = u; on_one = v }
unfolding record_of_code odd
bits_code true true = refl
bits_code true false = refl
bits_code false true = refl
bits_code false false = refl

pub half_code : (x : ℕ) → x < 4 → bit (odd (x / 2)) ≡ x / 2
half_code x h = bit_odd (x / 2) ∙ omega arith

mask_record_lem : (r : Record) (k : List Bool) → mask_record r k ≡ record { on_zero = r.on_zero && get_or k 0 false; on_one = r.on_one && get_or k (bit r.on_zero) false }
unfolding mask_record mask_at
mask_record_lem r k = let z : 0 + bit r.on_zero ≡ bit r.on_zero = omega arith in rw z

-- as the code of a record gives it
code_mask : (f : ℕ → Bool) (d x : ℕ) → x < 4 → ◌≡◌ {A = Record} (record { on_zero = odd (x / 2) && f d; on_one = odd x && f (d + x / 2) }) (mask_at f d (record_of_code x))
unfolding mask_at record_of_code
code_mask f d x h = ap (λ t. record { on_zero = odd (x / 2) && f d; on_one = odd x && f (d + t) }) (sym (half_code x h))

pub kept_code : (f : ℕ → Bool) (c x a b : ℕ) → x < 4 → a ≡ bit (odd (x / 2) && f c) → b ≡ bit (odd x && f (c + x / 2)) → record_of_code (a * 2 + b) ≡ mask_at f c (record_of_code x)
kept_code f c x a b h ea eb = rw (ea, eb) (bits_code (odd (x / 2) && f c) (odd x && f (c + x / 2))) ∙ code_mask f c x h

-- the same with both as numbers that are added
pub kept_bools : (f : ℕ → Bool) (c x : ℕ) (u v : Bool) → x < 4 → u ≡ (odd (x / 2) && f c) → v ≡ (odd x && f (c + x / 2)) → record_of_code (bool_byte u * 2 + bool_byte v) ≡ mask_at f c (record_of_code x)
kept_bools f c x u v h eu ev = ap record_of_code (bools_bits u v) ∙ kept_code f c x (bit u) (bit v) h (ap bit eu) (ap bit ev)
  where
    bools_bits : (a b : Bool) → bool_byte a * 2 + bool_byte b ≡ bit a * 2 + bit b
    bools_bits true true = refl
    bools_bits true false = refl
    bools_bits false true = refl
    bools_bits false false = refl

pub bools_less : (u v : Bool) → bool_byte u * 2 + bool_byte v < 4
bools_less true true = omega arith
bools_less true false = omega arith
bools_less false true = omega arith
bools_less false false = omega arith

pub code_edge : (x : ℕ) → x < 4 → ltb 0 x ≡ has_edge (record_of_code x)
unfolding has_edge record_of_code odd
code_edge = cases4 (λ x. ltb 0 x ≡ has_edge (record_of_code x)) refl refl refl refl

pub odd_yes : (x : ℕ) → x % 2 ≡ 1 → odd x ≡ true
unfolding odd
odd_yes x e = rw e

pub odd_no : (x : ℕ) → x % 2 ≡ 0 → odd x ≡ false
unfolding odd
odd_no x e = rw e

pub marked_ok : {w : ℕ} {q z p : Bytes} {r i c v : ℕ} {s : Record} → record_of_code v ≡ mask_at (kept_at w z q r) c s → Put i v z p → RecordMarked w q r s z i c p
marked_ok e t = record { here = t.here ∙ e; other = t.other; size = t.size }

pub children_code : (x : ℕ) → x < 4 → children (record_of_code x) ≡ x / 2 + x % 2
unfolding children record_of_code
children_code x h = rw (half_code x h, bit_odd x)

pub and_eq : (b u v : Bool) → (b ≡ true → u ≡ v) → (b && u) ≡ (b && v)
and_eq true u v h = h refl
and_eq false u v h = refl

-- ---- Entries: the records from i on, then the members
kept_entry : (w : ℕ) (q : Bytes) (r n i x : ℕ) → i ≤ r → i ≤ x → x < r + n
    → get_or (map has_edge (drop i (records_to q r)) ++ tabulate (flag_mask w q r) n) (x - i) false ≡ kept_at w q q r x
unfolding kept_at records_to flag_mask
kept_entry w q r n i x h k l =
    let t : List Record = tabulate (λ (k : ℕ). record_at q (i + k)) (r - i) in
    let f : ℕ → Bool = λ j. is_flag w (flag_at q (r + j)) in
    let lt : length t ≡ r - i = length_tabulate (λ k. record_at q (i + k)) (r - i) in
    let lm : length (map has_edge t) ≡ r - i = rw length-map lt in
    rw (drop_tabulate (record_at q) i r h)
    (elim (dec_le (suc x) r) [
      | yes y ↦
          let z : i + (x - i) ≡ x = omega arith in
          let u : x - i < length (map has_edge t) = omega arith in
          let v : x - i < length t = omega arith in
          get_or-append (map has_edge t) (tabulate f n) false (x - i) u
          ∙ get_d_map_in has_edge t (x - i) empty_record false v
          ∙ ap has_edge (get_d_tabulate (λ k. record_at q (i + k)) (r - i) (x - i) empty_record (omega arith) ∙ ap (record_at q) z)
          ∙ rw (lt_yes x r y)
      | no y ↦
          let z : x - i ≡ length (map has_edge t) + (x - r) = omega arith in
          let v : r + (x - r) ≡ x = omega arith in
          ap (λ a. get_or (map has_edge t ++ tabulate f n) a false) z
          ∙ get_or-append-add (map has_edge t) (tabulate f n) (x - r) false
          ∙ get_d_tabulate f n (x - r) false (omega arith)
          ∙ ap (λ a. is_flag w (flag_at q a)) v
          ∙ rw (lt_no x r (omega arith))
    ])

-- ---- The records from i on are done, those before are as they were; the edges of record i - 1 lead to the entries before c
pub record Marking (w : ℕ) (q : Bytes) (r n i c : ℕ) (p : Bytes) : Type 0 where
  pub out : drop i (records_to p r) ≡ masked_from (c - i) (drop i (records_to q r)) (tabulate (flag_mask w q r) n)
  pub next : c ≡ bit (ltb 0 r) + children_before q i
  pub low : i ≤ r
  pub front : (j : ℕ) → j < i → record_at p j ≡ record_at q j
  pub other : (j : ℕ) → r ≤ j → record_at p j ≡ record_at q j
  pub size : length p ≡ length q

mask_same : (w : ℕ) (q p : Bytes) (r n : ℕ) → ((j : ℕ) → r ≤ j → record_at p j ≡ record_at q j) → tabulate (flag_mask w p r) n ≡ tabulate (flag_mask w q r) n
unfolding flag_mask flag_at
mask_same w q p r n h = tabulate_ext (flag_mask w p r) (flag_mask w q r) n (λ i l. unfold flag_mask flag_at in rw (h (r + i) (omega arith)))

before_ge : {q : Bytes} {r n : ℕ} → Entries q r n → (i : ℕ) → i ≤ r → i ≤ children_before q i
unfolding children_before
before_ge a zero l = omega arith
before_ge a (suc i) l = omega (arith, before_ge a i (omega arith), a.full i l)

before_le : (q : Bytes) (i r : ℕ) → i ≤ r → children_before q i ≤ children_before q r
unfolding children_before
before_le q i r h = le_ind (λ (k : ℕ). children_before q i ≤ children_before q k) (omega arith) (λ k l f. omega arith) r h

pub mark_le : {w : ℕ} {q : Bytes} {r n i c : ℕ} {p : Bytes} → Entries q r n → Marking w q r n i c p → c ≤ r + n
mark_le {q} {r} {i} a v = omega (arith, v.next, a.total, before_le q i r v.low)

from_cons : (h : ℕ) (s : Record) (l M : List Record) (b : List Bool) (k : ℕ) → h - 1 + children s ≡ k → M ≡ masked_from k l b
    → masked_from h (s ∷ l) b ≡ mask_record s (drop (h - 1) (map has_edge M ++ b)) ∷ M
unfolding masked_from
from_cons h s l M b k e f = rw (e, ← f)

none_left : (l : Bytes) (r : ℕ) → drop r (records_to l r) ≡ []
unfolding records_to
none_left l r = drop_of_length-le (tabulate (record_at l) r) {i = r} (omega (arith, length_tabulate (record_at l) r))

cons : (l : Bytes) (r j : ℕ) → j < r → drop j (records_to l r) ≡ record_at l j ∷ drop (suc j) (records_to l r)
unfolding records_to
cons l r j h =
    let g : j < length (tabulate (record_at l) r) = rw (length_tabulate (record_at l) r) h in
    drop-cons (tabulate (record_at l) r) j empty_record g ∙ ap (λ y. y ∷ drop (suc j) (tabulate (record_at l) r)) (get_d_tabulate (record_at l) r j empty_record h)

same_left : (l k : Bytes) (r i : ℕ) → i ≤ r → ((j : ℕ) → i ≤ j → record_at l j ≡ record_at k j) → drop i (records_to l r) ≡ drop i (records_to k r)
unfolding records_to
same_left l k r i h f =
    drop_tabulate (record_at l) i r h ∙ tabulate_ext (λ j. record_at l (i + j)) (λ j. record_at k (i + j)) (r - i) (λ j g. f (i + j) (omega arith)) ∙ sym (drop_tabulate (record_at k) i r h)

pub mark_none : {w : ℕ} {q : Bytes} {r n : ℕ} → Entries q r n → Marking w q r n r (r + n) q
mark_none {q} {r} a =
    record { out = rw (none_left q r) (unfold masked_from in refl); next = a.total; low = omega arith; front = λ j h. refl; other = λ j h. refl; size = refl }

module _ {w : ℕ} {q : Bytes} {r n j c x : ℕ} {p : Bytes} (a : Entries q r n) (v : Marking w q r n (suc j) c p) (small : x < 4) (ex : record_of_code x ≡ record_at q j) where
  first : bit (ltb 0 r) ≡ 1
  first = rw (lt_yes 0 r (omega (arith, v.low)))

  pub down : (x / 2 + x % 2 ≤ c) × (c - (x / 2 + x % 2) ≡ bit (ltb 0 r) + children_before q j)
  unfolding children_before
  down =
      let f : children (record_at q j) ≡ x / 2 + x % 2 = ap children (sym ex) ∙ children_code x small in
      (omega (arith, v.next), omega (arith, v.next))

  pub inside : (j + 1 ≤ c - (x / 2 + x % 2)) × (c ≤ r + n)
  inside = (omega (arith, first, down.1, before_ge a j (omega (arith, v.low))), omega (arith, v.next, a.total, before_le q (suc j) r v.low))

  -- the record that is left
  head : {u : Bytes} → RecordMarked w p r (record_of_code x) p j (c - (x / 2 + x % 2)) u
      → record_at u j ≡ mask_record (record_at q j) (drop (c - (x / 2 + x % 2) - j - 1) (map has_edge (drop (suc j) (records_to p r)) ++ tabulate (flag_mask w p r) n))
  unfolding record_of_code
  head t =
      let d : ℕ = c - (x / 2 + x % 2) in
      let K : List Bool = map has_edge (drop (suc j) (records_to p r)) ++ tabulate (flag_mask w p r) n in
      let ze : (record_at q j).on_zero ≡ odd (x / 2) = ap (λ y. y.on_zero) (sym ex) in
      let on : (record_at q j).on_one ≡ odd x = ap (λ y. y.on_one) (sym ex) in
      let i1 : j + 1 ≤ d = inside.0 in
      let i2 : c ≤ r + n = inside.1 in
      let i3 : d + (x / 2 + x % 2) ≡ c = omega (arith, down.0) in
      let kz : odd (x / 2) ≡ true → kept_at w p p r d ≡ get_or K (d - suc j) false = λ f.
      let g : x / 2 ≡ 1 = sym (half_code x small) ∙ ap bit f in
      sym (kept_entry w p r n (suc j) d v.low (omega arith) (omega arith)) in
      let ko : odd x ≡ true → kept_at w p p r (d + x / 2) ≡ get_or K (d + x / 2 - suc j) false = λ f.
      let g : x % 2 ≡ 1 = sym (bit_odd x) ∙ ap bit f in
      sym (kept_entry w p r n (suc j) (d + x / 2) v.low (omega arith) (omega arith)) in
      let hz : d - j - 1 + 0 ≡ d - suc j = omega arith in
      let ho : d - j - 1 + x / 2 ≡ d + x / 2 - suc j = omega arith in
      let hb : bit (record_at q j).on_zero ≡ x / 2 = ap bit ze ∙ half_code x small in
      t.here ∙ sym (code_mask (kept_at w p p r) d x small)
      ∙ record_eq
      (and_eq (odd (x / 2)) (kept_at w p p r d) (get_or K (d - suc j) false) kz ∙ ap₂ ◌&&◌ (sym ze) (sym (get_or-drop (d - j - 1) K 0 false ∙ ap (λ y. get_or K y false) hz)))
      (and_eq (odd x) (kept_at w p p r (d + x / 2)) (get_or K (d + x / 2 - suc j) false) ko
      ∙ ap₂ ◌&&◌ (sym on) (sym (ap (λ y. get_or (drop (d - j - 1) K) y false) hb ∙ get_or-drop (d - j - 1) K (x / 2) false ∙ ap (λ y. get_or K y false) ho)))
      ∙ sym (mask_record_lem (record_at q j) (drop (d - j - 1) K))

  pub mark_more : {u : Bytes} → RecordMarked w p r (record_of_code x) p j (c - (x / 2 + x % 2)) u → Marking w q r n j (c - (x / 2 + x % 2)) u
  mark_more {u} t =
      let d : ℕ = c - (x / 2 + x % 2) in
      let k : List Bool = tabulate (flag_mask w q r) n in
      let gap : d - j - 1 + children (record_at q j) ≡ c - suc j = omega (arith, inside.0, down.0, ap children (sym ex) ∙ children_code x small) in
      record {
        out =
            cons u r j v.low
            ∙ ap₂ ◌∷◌ (rw (mask_same w q p r n v.other) at (head t)) (same_left u p r (suc j) v.low (λ i l. t.other i (λ f. omega arith)))
            ∙ sym (from_cons (d - j) (record_at q j) (drop (suc j) (records_to q r)) (drop (suc j) (records_to p r)) k (c - suc j) gap v.out)
            ∙ ap (λ y. masked_from (d - j) y k) (sym (cons q r j v.low));
        next = down.1;
        low = omega (arith, v.low);
        front = λ i h. t.other i (λ f. omega arith) ∙ v.front i (omega arith);
        other = λ i h. t.other i (λ f. omega (arith, v.low)) ∙ v.other i h;
        size = t.size ∙ v.size;
      }

-- the record before record i, as p has it
module _ {w : ℕ} {q : Bytes} {r n i c x : ℕ} {p : Bytes} (a : Entries q r n) (v : Marking w q r n i c p) (some : 0 < i) (small : x < 4) (ex : record_of_code x ≡ record_at p (i - 1)) where
  at_suc : Marking w q r n (suc (i - 1)) c p
  at_suc = let z : suc (i - 1) ≡ i = omega arith in rw z v

  as_was : record_of_code x ≡ record_at q (i - 1)
  as_was = ex ∙ v.front (i - 1) (omega arith)

  -- its entries are there
  pub before_entries : (x / 2 + x % 2 ≤ c) × (c ≤ r + n)
  before_entries = ((down a at_suc small as_was).0, (inside a at_suc small as_was).1)

  pub mark_before : {u : Bytes} → RecordMarked w p r (record_of_code x) p (i - 1) (c - (x / 2 + x % 2)) u → Marking w q r n (i - 1) (c - (x / 2 + x % 2)) u
  mark_before t = mark_more a at_suc small as_was t

-- y has the records of the byte of record i - 1, as they were
pub record Kept (q : Bytes) (i y : ℕ) : Type 0 where
  pub same : (k : ℕ) → k < i → k / 4 ≡ (i - 1) / 4 → record_of_code (code_in y (k % 4)) ≡ record_at q k

pub kept_read : {w : ℕ} {q : Bytes} {r n i c y : ℕ} {p : Bytes} → Marking w q r n i c p → (0 < i → y ≡ get_or p ((i - 1) / 4) 0) → Kept q i y
kept_read {i} {p} v e =
    record {
      same = λ k h s.
          let z : 0 < i = omega arith in
          ap (λ t. record_of_code (code_in t (k % 4))) (e z ∙ ap (λ t. get_or p t 0) (sym s)) ∙ sym (code_at p k) ∙ v.front k h;
    }

pub kept_on : {q : Bytes} {i y : ℕ} → Kept q i y → 0 < (i - 1) % 4 → Kept q (i - 1) y
kept_on f g = record { same = λ k h s. f.same k (omega arith) (omega arith) }

-- the record before record i, as it is read there
pub kept_code_of : {w : ℕ} {q : Bytes} {r n i c y x : ℕ} {p : Bytes} → Marking w q r n i c p → Kept q i y → 0 < i → x ≡ code_in y ((i - 1) % 4) → record_of_code x ≡ record_at p (i - 1)
kept_code_of {i} v f some e = ap record_of_code e ∙ f.same (i - 1) (omega arith) refl ∙ sym (v.front (i - 1) (omega arith))

done_out : (w : ℕ) (q p : Bytes) (r n c : ℕ) → Marking w q r n 0 c p → records_to p r ≡ masked_from 1 (records_to q r) (tabulate (flag_mask w q r) n)
done_out w q p zero n c v = unfold records_to tabulate masked_from in refl
done_out w q p (suc r) n c v = let z : c - 0 ≡ 1 = unfold children_before in omega (arith, v.next, ap bit (lt_yes 0 (suc r) (omega arith))) in rw z at v.out

pub marks_done : {w : ℕ} {q p : Bytes} {r n c : ℕ} → Marking w q r n 0 c p → Marks w q r n p
marks_done {w} {q} {p} {r} {n} {c} v = record { out = done_out w q p r n c v }

pub mark_done : {w : ℕ} {q p : Bytes} {r n c : ℕ} → Marking w q r n 0 c p → Marked w q r n p
mark_done v = record { marks = marks_done v; other = v.other; size = v.size }
