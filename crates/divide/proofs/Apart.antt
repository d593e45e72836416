-- Marking apart from the queue: what z has of the records that are done is what marking in the queue's place would have put there.
use mathlib.Core.Path.{◌≡◌, refl, sym, ap, ap₂, ◌∙◌}
use Prim.Native.Nat.{ℕ, suc, ◌+◌, ◌-◌, ◌*◌, ◌/◌, ◌%◌, ◌≤◌, ◌<◌}
use native.Mathlib.Omega.{arith}
use native.Mathlib.Decide.{ℕ_discrete, dec_le}
use lib.ListN.{length, get_or, set, length-set}
use lib.Seq.{get_or-set_same, get_or-set_other}
use Rattle.loes.specs.Bytes.{Bytes}
use Rattle.loes.proofs.Tests.{lt_yes, lt_no}
use Rattle.loes.proofs.Bits.{tabulate_ext}
use Rattle.records.specs.Records.{has_edge, children, record_of_code, code_in, record_at, records_at, flag_at, flag_of_record, is_flag}
use Rattle.records.specs.Numbers.{records_of}
use Rattle.records.specs.Tables.{kept_by}
use Rattle.records.proofs.Codes.{cases4, code_at, records_same}
use Rattle.records.proofs.Numbers.{byte_run}
use Rattle.restrict.specs.Restriction.{kept_at, mask_at, kept_singles, masked_at, child_count, Entries, RecordMarked, SingleRoom, SinglesMarked, MarkRoom, Marks}
use Rattle.restrict.proofs.Marking.{Marking, mark_none, children_code, down, inside, marks_done}
use Rattle.restrict.proofs.Masking.{mask_ext, masked_ext, step, mark_block}
use Rattle.restrict.proofs.Singles.{four_set, four_size, four_other, four_0, four_1, four_2, four_3, singles_marked}
use Rattle.divide.specs.Division.{ByteMarked, MarksFit}

-- room for fewer marks, in as many bytes
pub fits_less : {r k : ℕ} {z u : Bytes} → MarksFit r z → length u ≡ length z → k ≤ r → MarksFit k u
fits_less m e h = record { room = omega (arith, m.room, e, h); small = omega (arith, m.small, e) }

-- records of equal bytes
same_byte : (l k : Bytes) (i : ℕ) → get_or l (i / 4) 0 ≡ get_or k (i / 4) 0 → record_at l i ≡ record_at k i
same_byte l k i e = code_at l i ∙ ap (λ b. record_of_code (code_in b (i % 4))) e ∙ sym (code_at k i)

-- a byte put into z, whose entries are kept by a test of the records of s
pub byte_marked : (w : ℕ) (q z s : Bytes) (r j c t b : ℕ) → j < length z → records_of 4 b ≡ masked_at (λ m. kept_by t (record_at s m)) c (records_of 4 (get_or q j 0))
    → ((m : ℕ) → m < child_count (records_of 4 (get_or q j 0)) → kept_by t (record_at s (c + m)) ≡ kept_at w z q r (c + m)) → ByteMarked w q r (records_at q (4 * j) 4) z j c (set z j b)
byte_marked w q z s r j c t b h e k =
    record {
      here = byte_run (set z j b) j ∙ ap (records_of 4) (get_or-set_same z j b 0 h) ∙ e ∙ masked_ext (λ m. kept_by t (record_at s m)) (kept_at w z q r) c (records_of 4 (get_or q j 0)) k ∙ ap (masked_at (kept_at w z q r) c) (sym (byte_run q j));
      other = λ m f. same_byte (set z j b) z m (get_or-set_other z j (m / 4) b 0 f);
      size = length-set z j b;
    }

-- four bytes of u put into p
four_same : (p u : Bytes) (j : ℕ) (room : j + 3 < length p) (k : ℕ) → j ≤ k → k < j + 4 → get_or (four_set p j (get_or u j 0) (get_or u (j + 1) 0) (get_or u (j + 2) 0) (get_or u (j + 3) 0) room) k 0 ≡ get_or u k 0
four_same p u j room k h g =
    let a : ℕ = get_or u j 0 in
    let b : ℕ = get_or u (j + 1) 0 in
    let c : ℕ = get_or u (j + 2) 0 in
    let d : ℕ = get_or u (j + 3) 0 in
    let o : Bytes = four_set p j a b c d room in
    let z : j + 0 ≡ j = omega arith in
    let y : j + (k - j) ≡ k = omega arith in
    rw y at (cases4 (λ t. get_or o (j + t) 0 ≡ get_or u (j + t) 0) (rw z (four_0 p j a b c d room)) (four_1 p j a b c d room) (four_2 p j a b c d room) (four_3 p j a b c d room) (k - j) (omega arith))

-- ---- The records from i on are done in z, which was o, as they would be in p, in the queue's place
pub record Apart (w : ℕ) (q : Bytes) (r n i c : ℕ) (o z : Bytes) : Type 0 where
  pub p : Bytes
  pub marking : Marking w q r n i c p
  pub same : (j : ℕ) → i ≤ j → j < r → record_at z j ≡ record_at p j
  pub size : length z ≡ length o

pub apart_none : {w : ℕ} {q : Bytes} {r n : ℕ} {z : Bytes} → Entries q r n → Apart w q r n r (r + n) z z
apart_none {q} a = record { p = q; marking = mark_none a; same = λ j h g. absurd (omega arith); size = refl }

pub apart_done : {w : ℕ} {q : Bytes} {r n c : ℕ} {o z : Bytes} → Apart w q r n 0 c o z → Marks w q r n z
apart_done {r} {z} v = record { out = records_same z v.p r (λ j h. v.same j (omega arith) h) ∙ (marks_done v.marking).out }

module _ {w : ℕ} {q : Bytes} {r n : ℕ} (a : Entries q r n) {i c : ℕ} {o z : Bytes} (v : Apart w q r n i c o z) where
  kept : (m : ℕ) → i ≤ m → kept_at w z q r m ≡ kept_at w v.p v.p r m
  unfolding kept_at flag_at
  kept m h = elim (dec_le (suc m) r) [
    | yes y ↦ rw (lt_yes m r y) (ap has_edge (v.same m h y))
    | no y ↦ rw (lt_no m r (omega arith)) (ap (λ t. is_flag w (flag_of_record t)) (sym (v.marking.other m (omega arith))))
  ]

  -- ---- One record more
  -- its entries
  pub record_entries : (j : ℕ) → i ≡ suc j → (children (record_at q j) ≤ c) × (i ≤ c - children (record_at q j))
  record_entries j ei =
      let x : ℕ = code_in (get_or q (j / 4) 0) (j % 4) in
      let small : x < 4 = unfold code_in in omega arith in
      let ex : record_of_code x ≡ record_at q j = sym (code_at q j) in
      let k : children (record_at q j) ≡ x / 2 + x % 2 = ap children (sym ex) ∙ children_code x small in
      let t = rw ei at v.marking in
      (omega (arith, k, (down a t small ex).0), omega (arith, k, ei, (inside a t small ex).0))

  pub apart_record : {u : Bytes} (j d : ℕ) → i ≡ suc j → c ≡ d + children (record_at q j) → i ≤ d → r ≤ 4 * length q → RecordMarked w q r (record_at q j) z j d u → Apart w q r n j d o u
  apart_record {u} j d ei ec l room t =
      let x : ℕ = code_in (get_or q (j / 4) 0) (j % 4) in
      let ex : record_of_code x ≡ record_at q j = sym (code_at q j) in
      let s = step a v.p v.p i j i c d x ei (ec ∙ ap (λ y. d + children y) (sym ex)) v.marking (λ m h. refl) refl (unfold code_in in omega arith) ex (omega arith) l
      (omega (arith, v.marking.size, v.marking.low)) in
      record {
        p = s.0;
        marking = s.1.marking;
        same = λ m h g. elim (ℕ_discrete m j) [
          | yes e ↦
              rw e (t.here ∙ mask_ext (kept_at w z q r) (kept_at w v.p v.p r) d (record_at q j) (λ k f. kept (d + k) (omega arith)) ∙ sym (s.1.here ∙ ap (λ y. mask_at (kept_at w v.p v.p r) d y) ex))
          | no e ↦ t.other m e ∙ v.same m (omega arith) g ∙ sym (s.1.other m e)
        ];
        size = t.size ∙ v.size;
      }

  -- ---- A byte more
  pub apart_byte : {u : Bytes} (j k : ℕ) → i ≡ 4 * j + 4 → k ≡ child_count (records_of 4 (get_or q j 0)) → MarkRoom r i k c (length q) → j < length q
      → ByteMarked w q r (records_at q (4 * j) 4) z j (c - k) u → Apart w q r n (4 * j) (c - k) o u
  apart_byte {u} j k ei ek m room t =
      let y : ℕ = get_or u j 0 in
      let s : Bytes = set v.p j y in
      let d : ℕ = c - k in
      let len : length v.p ≡ length q = v.marking.size in
      let there : get_or s j 0 ≡ y = get_or-set_same v.p j y 0 (omega arith) in
      let other : (l : ℕ) → (l / 4 ≡ j → ⊥) → record_at s l ≡ record_at v.p l = λ l f. same_byte s v.p l (get_or-set_other v.p j (l / 4) y 0 f) in
      let ec : c ≡ d + child_count (records_of 4 (get_or q j 0)) = omega (arith, m.less) in
      let here : records_at s (4 * j) 4 ≡ masked_at (kept_at w v.p v.p r) d (records_of 4 (get_or q j 0)) =
      byte_run s j ∙ ap (records_of 4) there ∙ sym (byte_run u j) ∙ t.here
      ∙ masked_ext (kept_at w z q r) (kept_at w v.p v.p r) d (records_at q (4 * j) 4) (λ k f. kept (d + k) (omega (arith, m.behind))) ∙ ap (masked_at (kept_at w v.p v.p r) d) (byte_run q j) in
      record {
        p = s;
        marking = mark_block a v.p s j c d (get_or q j 0) (byte_run q j) (rw ei at v.marking) (omega (arith, m.behind)) ec (omega arith) here other (length-set v.p j y);
        same = λ l h g. elim (ℕ_discrete (l / 4) j) [
          | yes e ↦ same_byte u s l (ap (λ b. get_or u b 0) e ∙ sym (ap (λ b. get_or s b 0) e ∙ there))
          | no e ↦ t.other l e ∙ v.same l (omega arith) g ∙ sym (other l e)
        ];
        size = t.size ∙ v.size;
      }

  -- ---- Sixteen more
  pub apart_singles : {u : Bytes} → SingleRoom q r i c → SinglesMarked (records_at q (i - 16) 16) z (i - 16) (c - 16) u → Apart w q r n (i - 16) (c - 16) o u
  unfolding records_at
  apart_singles {u} m t =
      let p : Bytes = v.p in
      let len : length p ≡ length q = v.marking.size in
      let j : ℕ = (i - 16) / 4 in
      let ej : 4 * j ≡ i - 16 = omega (arith, m.whole, m.block) in
      let room : j + 3 < length p = omega (arith, m.queue, m.behind, m.block) in
      let s : Bytes = four_set p j (get_or u j 0) (get_or u (j + 1) 0) (get_or u (j + 2) 0) (get_or u (j + 3) 0) room in
      let there : (l : ℕ) → i ≤ l + 16 → l < i → record_at s l ≡ record_at u l = λ l h g. same_byte s u l (four_same p u j room (l / 4) (omega arith) (omega arith)) in
      let other : (l : ℕ) → (i - 16 ≤ l → l < i - 16 + 16 → ⊥) → record_at s l ≡ record_at p l = λ l f.
      same_byte s p l (four_other p j (get_or u j 0) (get_or u (j + 1) 0) (get_or u (j + 2) 0) (get_or u (j + 3) 0) room (l / 4) (λ h g. f (omega arith) (omega arith))) in
      let mp : SingleRoom p r i c = record {
        block = m.block;
        whole = m.whole;
        records = m.records;
        behind = m.behind;
        queue = rw len m.queue;
        single = λ k h g. rw (v.marking.front k g) (m.single k h g);
      } in
      let here : records_at s (i - 16) 16 ≡ kept_singles (records_at p (i - 16) 16) (records_at p (c - 16) 16) =
      tabulate_ext (λ k. record_at s (i - 16 + k)) (λ k. record_at u (i - 16 + k)) 16 (λ k h. there (i - 16 + k) (omega (arith, m.block)) (omega (arith, m.block)))
      ∙ t.here
      ∙ ap₂ kept_singles
      (tabulate_ext (λ k. record_at q (i - 16 + k)) (λ k. record_at p (i - 16 + k)) 16 (λ k h. sym (v.marking.front (i - 16 + k) (omega (arith, m.block)))))
      (tabulate_ext (λ k. record_at z (c - 16 + k)) (λ k. record_at p (c - 16 + k)) 16 (λ k h. v.same (c - 16 + k) (omega (arith, m.behind)) (omega (arith, m.behind, m.records)))) in
      record {
        p = s;
        marking = singles_marked a p s i c v.marking mp (record { here = here; other = other; size = four_size p j (get_or u j 0) (get_or u (j + 1) 0) (get_or u (j + 2) 0) (get_or u (j + 3) 0) room });
        same = λ l h g. elim (dec_le i l) [
          | yes f ↦ t.other l (λ x y. omega (arith, m.block)) ∙ v.same l f g ∙ sym (other l (λ x y. omega (arith, m.block)))
          | no f ↦ sym (there l (omega arith) (omega arith))
        ];
        size = t.size ∙ v.size;
      }

-- ---- The byte, and the record, before record i
pub apart_byte_before : {w : ℕ} {q : Bytes} {r n : ℕ} → Entries q r n → {i c k : ℕ} {o z u : Bytes} → Apart w q r n i c o z → r ≤ 4 * length q → 0 < i → MarkRoom r i k c (length q)
    → k ≡ child_count (records_of 4 (get_or q ((i - 1) / 4) 0)) → ByteMarked w q r (records_at q (4 * ((i - 4) / 4)) 4) z ((i - 4) / 4) (c - k) u → Apart w q r n (i - 4) (c - k) o u
apart_byte_before a {i} {c} {k} v room h m e t =
    let last : i ≡ 4 * ((i - 4) / 4) + 4 = omega (arith, m.whole) in
    let same : (i - 1) / 4 ≡ (i - 4) / 4 = omega (arith, last) in
    let z : 4 * ((i - 4) / 4) ≡ i - 4 = omega (arith, last) in
    rw z at (apart_byte a v ((i - 4) / 4) k last (rw same at e) m (omega (arith, last, v.marking.low, room)) t)

pub apart_record_before : {w : ℕ} {q : Bytes} {r n : ℕ} → Entries q r n → {i c d : ℕ} {o z u : Bytes} → Apart w q r n i c o z → i ≡ suc (i - 1) → r ≤ 4 * length q
    → d ≡ c - children (record_at q (i - 1)) → RecordMarked w q r (record_at q (i - 1)) z (i - 1) d u → Apart w q r n (i - 1) d o u
apart_record_before a {i} {d} v e room h t =
    let b = record_entries a v (i - 1) e in
    apart_record a v (i - 1) d e (omega (arith, h, b.0)) (omega (arith, h, b.1)) room t
