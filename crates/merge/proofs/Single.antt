-- One record merged.
use mathlib.Core.Path.{◌≡◌, refl, sym, ap, ap₂, ◌∙◌}
use Prim.Native.Nat.{ℕ, suc, ◌+◌, ◌-◌, ◌*◌, ◌/◌, ◌%◌, ◌≤◌, ◌<◌}
use mathlib.Core.Bool.{Bool, true, false, ◌||◌, cond}
use mathlib.Core.List.{List, [], ◌∷◌, ◌++◌, map, map-append, append_assoc}
use native.Mathlib.Omega.{arith}
use lib.ListN.{length, length-append}
use lib.Bits.{bit_or}
use Rattle.loes.specs.Bytes.{Bytes, odd, tabulate}
use Rattle.loes.specs.Keys.{those}
use Rattle.loes.specs.Edges.{Record}
use Rattle.loes.proofs.Bytes.{length_tabulate, append_inj}
use Rattle.loes.proofs.Bits.{bit_odd, tabulate_add, tabulate_ext}
use Rattle.records.specs.Records.{Flag, has_edge, record_of_code, record_at, records_to, flag_at, flags_to, flags_from, flag_if, flag_of_record, record_of_flag, Put, Pushed}
use Rattle.records.proofs.Codes.{cases4, odd_eq, put_more, flags_records}
use Rattle.merge.specs.Union.{child_flags, either_record, taken_record, Queued, RecordMerged}

-- ---- The edges of either
abbrev Either : ℕ → ℕ → Type 0
Either x y = (record_of_code (bit_or x y) ≡ either_record (record_of_code x) (record_of_code y)) × (bit_or x y < 4)

pub or_codes : (x y : ℕ) → x < 4 → y < 4 → Either x y
unfolding record_of_code either_record odd
or_codes x y h k =
    cases4 (λ a. Either a y)
    (cases4 (Either 0) (refl, omega arith) (refl, omega arith) (refl, omega arith) (refl, omega arith) y k)
    (cases4 (Either 1) (refl, omega arith) (refl, omega arith) (refl, omega arith) (refl, omega arith) y k)
    (cases4 (Either 2) (refl, omega arith) (refl, omega arith) (refl, omega arith) (refl, omega arith) y k)
    (cases4 (Either 3) (refl, omega arith) (refl, omega arith) (refl, omega arith) (refl, omega arith) y k)
    x h

-- ---- Flags pushed
one_flag : (a b : Bool) → map flag_of_record (cond (a || b) (record { on_zero = a; on_one = b } ∷ []) []) ≡ flag_if b a
unfolding flag_of_record flag_if
one_flag true true = refl
one_flag true false = refl
one_flag false true = refl
one_flag false false = refl

pub push_flag : (q p : Bytes) (n z end : ℕ) → Pushed n z q p end → Queued n (flag_if (odd z) (odd (z / 2))) q p end
push_flag q p n z end w =
    record {
      flags =
          flags_records p end
          ∙ rw (w.records, map-append, ← flags_records q n) (ap (λ l. flags_to q n ++ l) (unfold those has_edge record_of_code in one_flag (odd (z / 2)) (odd z)));
      size = w.size;
    }

pub push_both : (q p u : Bytes) (n t r x y : ℕ) → x < 4 → Pushed n (x / 2 + y / 2 * 2) q p t → Pushed t (x % 2 + y % 2 * 2) p u r
    → Queued n (child_flags (record_of_code x) (record_of_code y)) q u r
unfolding child_flags record_of_code
push_both q p u n t r x y h v w =
    let a : flag_if (odd (x / 2 + y / 2 * 2)) (odd ((x / 2 + y / 2 * 2) / 2)) ≡ flag_if (odd (x / 2)) (odd (y / 2)) =
    ap₂ flag_if (odd_eq (x / 2 + y / 2 * 2) (x / 2) (omega arith)) (odd_eq ((x / 2 + y / 2 * 2) / 2) (y / 2) (omega arith)) in
    let b : flag_if (odd (x % 2 + y % 2 * 2)) (odd ((x % 2 + y % 2 * 2) / 2)) ≡ flag_if (odd x) (odd y) =
    ap₂ flag_if (odd_eq (x % 2 + y % 2 * 2) x (omega arith)) (odd_eq ((x % 2 + y % 2 * 2) / 2) y (omega arith)) in
    let f = push_flag q p n (x / 2 + y / 2 * 2) t v in
    let g = push_flag p u t (x % 2 + y % 2 * 2) r w in
    record {
      flags = g.flags ∙ rw (f.flags, a, b) (append_assoc (flags_to q n) (flag_if (odd (x / 2)) (odd (y / 2))) (flag_if (odd x) (odd y)));
      size = g.size ∙ f.size;
    }

-- a flag that is set is read so
pub flag_odd : (q : Bytes) (i f : ℕ) → record_of_code f ≡ record_at q i → ((flag_at q i).in_first ≡ odd f) × ((flag_at q i).in_second ≡ odd (f / 2))
unfolding flag_at flag_of_record record_of_code
flag_odd q i f e = (ap (λ r. r.on_one) (sym e), ap (λ r. r.on_zero) (sym e))

-- ---- A queue in parts
records_back : (l : List Record) → map record_of_flag (map flag_of_record l) ≡ l
unfolding flag_of_record record_of_flag
records_back [] = refl
records_back (r ∷ l) = ap (λ t. r ∷ t) (records_back l)

pub flags_split : (q : Bytes) (i n : ℕ) → flags_to q (i + n) ≡ flags_to q i ++ flags_from q i n
unfolding flags_to flags_from
flags_split q i n = tabulate_add (flag_at q) i n

pub length_flags : (q : Bytes) (i n : ℕ) → length (flags_from q i n) ≡ n
unfolding flags_from
length_flags q i n = length_tabulate (λ k. flag_at q (i + k)) n

pub flags_same : (p q : Bytes) (i n : ℕ) → ((j : ℕ) → i ≤ j → record_at p j ≡ record_at q j) → flags_from p i n ≡ flags_from q i n
unfolding flags_from flag_at
flags_same p q i n h = tabulate_ext (λ k. flag_at p (i + k)) (λ k. flag_at q (i + k)) n (λ k l. unfold flag_at in ap flag_of_record (h (i + k) (omega arith)))

-- flags put behind the first n of a queue leave what is before place i, and are behind what is from there on
module _ {n end : ℕ} {f : List Flag} {q p : Bytes} (w : Queued n f q p end) (i : ℕ) (h : i ≤ n) where
  queued_end : end ≡ n + length f
  unfolding flags_to
  queued_end = sym (length_tabulate (flag_at p) end) ∙ ap length w.flags ∙ length-append (tabulate (flag_at q) n) f ∙ ap (λ x. x + length f) (length_tabulate (flag_at q) n)

  pub queued_le : i ≤ end
  queued_le = omega (arith, queued_end)

  queued_parts : (flags_to p i ≡ flags_to q i) × (flags_from p i (end - i) ≡ flags_from q i (n - i) ++ f)
  queued_parts =
      let y : i + (end - i) ≡ end = omega (arith, queued_le) in
      let z : i + (n - i) ≡ n = omega arith in
      let a : flags_to p end ≡ flags_to p i ++ flags_from p i (end - i) = rw y at (flags_split p i (end - i)) in
      let b : flags_to q n ≡ flags_to q i ++ flags_from q i (n - i) = rw z at (flags_split q i (n - i)) in
      append_inj (flags_to p i) (flags_to q i) (flags_from p i (end - i)) (flags_from q i (n - i) ++ f) (unfold flags_to in length_tabulate (flag_at p) i ∙ sym (length_tabulate (flag_at q) i))
      (sym a ∙ w.flags ∙ rw b (append_assoc (flags_to q i) (flags_from q i (n - i)) f))

  pub queued_front : records_to p i ≡ records_to q i
  queued_front =
      sym (records_back (records_to p i)) ∙ ap (map record_of_flag) (sym (flags_records p i) ∙ queued_parts.0 ∙ flags_records q i) ∙ records_back (records_to q i)

  pub queued_behind : flags_from p i (end - i) ≡ flags_from q i (n - i) ++ f
  queued_behind = queued_parts.1

-- ---- One record merged
pub step_ok : (a b q o p : Bytes) (i ka kb tail end f x y z : ℕ) → i < tail → record_of_code f ≡ record_at q i
    → record_of_code x ≡ taken_record (odd f) a ka → record_of_code y ≡ taken_record (odd (f / 2)) b kb → record_of_code z ≡ either_record (record_of_code x) (record_of_code y)
    → Put i z q o → Queued tail (child_flags (record_of_code x) (record_of_code y)) o p end
    → RecordMerged a b q i ka kb tail p (ka + f % 2) (kb + f / 2 % 2) end
step_ok a b q o p i ka kb tail end f x y z h ef ex ey ez w k =
    let e = flag_odd q i f ef in
    let s : i + 1 ≡ suc i = omega arith in
    let l : i + 1 ≤ tail = omega arith in
    let m : records_to o (i + 1) ≡ records_to q i ++ record_of_code z ∷ [] = rw s (put_more q o i z w) in
    record {
      takena = rw (e.0, bit_odd f);
      takenb = rw (e.1, bit_odd (f / 2));
      out = queued_front k (i + 1) l ∙ m ∙ rw (ez, ex, ey, e.0, e.1);
      queue = queued_behind k (i + 1) l ∙ rw (flags_same o q (i + 1) (tail - (i + 1)) (λ j g. w.other j (λ f. omega arith)), ex, ey, e.0, e.1);
      last = queued_le k (i + 1) l;
      size = k.size ∙ w.size;
    }
