-- Records and flags as codes and in bytes, one at a time.
use mathlib.Core.Path.{◌≡◌, refl, sym, ◌∙◌}
use Prim.Native.Nat.{ℕ, zero, suc, ◌+◌, ◌-◌, ◌*◌, ◌/◌, ◌%◌, ◌^◌, ◌≤◌, ◌<◌}
use mathlib.Core.Bool.{Bool, true, false}
use mathlib.Core.List.{[], ◌∷◌, ◌++◌, map, append-nil, append_assoc}
use native.Mathlib.Omega.{arith}
use native.Mathlib.Decide.{ℕ_discrete}
use lib.ListN.{length, get_or, set, length-set}
use lib.Seq.{get_or-set_same, get_or-set_other}
use lib.Dec.{eqb}
use lib.Bits.{bit_and, bit_or}
use Rattle.loes.specs.Bytes.{Bytes, bit, odd, bit_at, bits_in, tabulate}
use Rattle.loes.specs.Keys.{those}
use Rattle.loes.specs.Edges.{Record, record_bits}
use Rattle.loes.proofs.Lists.{bits_append}
use Rattle.loes.proofs.Bytes.{length_tabulate}
use Rattle.loes.proofs.Bits.{tabulate_ext, map_tabulate}
use Rattle.records.proofs.Computed.{each, each_at}
use Rattle.records.specs.Records.{has_edge, record_of_code, code_in, record_at, records_to, flag_at, flags_to, is_flag, with_record, Put, Pushed, flag_of_record}

pub cases4 : (P : ℕ → Type 0) → P 0 → P 1 → P 2 → P 3 → (x : ℕ) → x < 4 → P x
cases4 P a b c d zero h = a
cases4 P a b c d (suc zero) h = b
cases4 P a b c d (suc (suc zero)) h = c
cases4 P a b c d (suc (suc (suc zero))) h = d
cases4 P a b c d (suc (suc (suc (suc x)))) h = absurd (omega arith)

pub odd_eq : (m n : ℕ) → m % 2 ≡ n % 2 → odd m ≡ odd n
unfolding odd
odd_eq m n e = rw e

pub record_eq : {a b c d : Bool} → a ≡ c → b ≡ d → ◌≡◌ {A = Record} (record { on_zero = a; on_one = b }) (record { on_zero = c; on_one = d })
record_eq e f = rw (e, f)

-- ---- Codes
pub edge_code : (x : ℕ) → x < 4 → 0 < x → has_edge (record_of_code x) ≡ true
unfolding has_edge record_of_code odd
edge_code x h l = cases4 (λ x. 0 < x → has_edge (record_of_code x) ≡ true) (λ l. absurd (omega arith)) (λ l. refl) (λ l. refl) (λ l. refl) x h l

pub no_edge_code : (x : ℕ) → x ≤ 0 → has_edge (record_of_code x) ≡ false
no_edge_code x h = let e : x ≡ 0 = omega arith in rw e (unfold has_edge record_of_code odd in refl)

pub flag_code : (x w : ℕ) (q : Bytes) (j : ℕ) → x < 4 → record_of_code x ≡ record_at q j → is_flag w (flag_at q j) ≡ eqb x w
unfolding is_flag flag_at flag_of_record
flag_code x w q j h e =
    rw (← e)
    (unfold record_of_code odd in cases4 (λ x. eqb (bit (record_of_code x).on_one + bit (record_of_code x).on_zero * 2) w ≡ eqb x w) refl refl refl refl x h)

-- ---- Records of a byte
pub code_at : (l : Bytes) (i : ℕ) → record_at l i ≡ record_of_code (code_in (get_or l (i / 4) 0) (i % 4))
unfolding record_at record_of_code bit_at code_in
code_at l i =
    let a : 2 * i / 8 ≡ i / 4 = omega arith in
    let b : (2 * i + 1) / 8 ≡ i / 4 = omega arith in
    let c : 2 * i % 8 ≡ 2 * (i % 4) = omega arith in
    let d : 7 - (2 * i + 1) % 8 ≡ 6 - 2 * (i % 4) = omega arith in
    let x : ℕ = get_or l (i / 4) 0 in
    rw (a, b, c, d)
    (cases4 (λ k. ◌≡◌ {A = Record} (record { on_zero = odd (x / 2 ^ (7 - 2 * k)); on_one = odd (x / 2 ^ (6 - 2 * k)) }) (record { on_zero = odd (x / 2 ^ (6 - 2 * k) % 4 / 2); on_one = odd (x / 2 ^ (6 - 2 * k) % 4) }))
    (record_eq (odd_eq _ _ (omega arith)) (odd_eq _ _ (omega arith)))
    (record_eq (odd_eq _ _ (omega arith)) (odd_eq _ _ (omega arith)))
    (record_eq (odd_eq _ _ (omega arith)) (odd_eq _ _ (omega arith)))
    (record_eq (odd_eq _ _ (omega arith)) (odd_eq _ _ (omega arith)))
    (i % 4) (omega arith))

-- as the mask of a byte gives it: computed for all bytes x, places k and codes z, entry 16·x + 4·k + z
pub masked : (x k z : ℕ) → x < 256 → k < 4 → z < 4 → bit_or (bit_and x (255 - 3 * 2 ^ (6 - 2 * k) % 256)) (z * 2 ^ (6 - 2 * k) % 256) ≡ with_record x k z
unfolding each with_record
masked x k z h i l =
    let a : (16 * x + 4 * k + z) / 16 ≡ x = omega arith in
    let b : (16 * x + 4 * k + z) / 4 % 4 ≡ k = omega arith in
    let c : (16 * x + 4 * k + z) % 4 ≡ z = omega arith in
    rw (a, b, c) at (each_at (λ i. bit_or (bit_and (i / 16) (255 - 3 * 2 ^ (6 - 2 * (i / 4 % 4)) % 256)) (i % 4 * 2 ^ (6 - 2 * (i / 4 % 4)) % 256)) (λ i. with_record (i / 16) (i / 4 % 4) (i % 4)) 4096 refl (16 * x + 4 * k + z) (omega arith))

code_here : (x z k : ℕ) → k < 4 → z < 4 → code_in (with_record x k z) k ≡ z
unfolding code_in with_record
code_here x z k h l =
    cases4 (λ k. (x - x / 2 ^ (6 - 2 * k) % 4 * 2 ^ (6 - 2 * k) + z * 2 ^ (6 - 2 * k)) / 2 ^ (6 - 2 * k) % 4 ≡ z) (omega arith) (omega arith) (omega arith) (omega arith) k h

code_other : (x z j k : ℕ) → (j ≡ k → ⊥) → j < 4 → k < 4 → z < 4 → code_in (with_record x k z) j ≡ code_in x j
unfolding code_in with_record
code_other x z j k n h i l =
    cases4 (λ k. (j ≡ k → ⊥) → code_in (with_record x k z) j ≡ code_in x j)
    (cases4 (λ j. (j ≡ 0 → ⊥) → code_in (with_record x 0 z) j ≡ code_in x j) (λ n. absurd (n refl)) (λ n. omega arith) (λ n. omega arith) (λ n. omega arith) j h)
    (cases4 (λ j. (j ≡ 1 → ⊥) → code_in (with_record x 1 z) j ≡ code_in x j) (λ n. omega arith) (λ n. absurd (n refl)) (λ n. omega arith) (λ n. omega arith) j h)
    (cases4 (λ j. (j ≡ 2 → ⊥) → code_in (with_record x 2 z) j ≡ code_in x j) (λ n. omega arith) (λ n. omega arith) (λ n. absurd (n refl)) (λ n. omega arith) j h)
    (cases4 (λ j. (j ≡ 3 → ⊥) → code_in (with_record x 3 z) j ≡ code_in x j) (λ n. omega arith) (λ n. omega arith) (λ n. omega arith) (λ n. absurd (n refl)) j h)
    k i n

pub put_ok : (o : Bytes) (i z v : ℕ) → i / 4 < length o → z < 4 → v ≡ with_record (get_or o (i / 4) 0) (i % 4) z → Put i z o (set o (i / 4) v)
put_ok o i z v h l e =
    let k : i % 4 < 4 = omega arith in
    let p : Bytes = set o (i / 4) v in
    record {
      size = length-set o (i / 4) v;
      here = code_at p i ∙ rw (get_or-set_same o (i / 4) v 0 h, e, code_here (get_or o (i / 4) 0) z (i % 4) k l);
      other = λ j q.
          code_at p j
          ∙ elim (ℕ_discrete (j / 4) (i / 4)) [
            | yes y ↦
                let g : j % 4 ≡ i % 4 → ⊥ = λ f. q (omega arith) in
                rw (y, get_or-set_same o (i / 4) v 0 h, e, code_other (get_or o (i / 4) 0) z (j % 4) (i % 4) g (omega arith) k l) (rw y at (sym (code_at o j)))
            | no y ↦ rw (get_or-set_other o (i / 4) (j / 4) v 0 y) (sym (code_at o j))
          ];
    }

-- ---- The first records of bytes
pub records_same : (p o : Bytes) (n : ℕ) → ((j : ℕ) → j < n → record_at p j ≡ record_at o j) → records_to p n ≡ records_to o n
unfolding records_to
records_same p o n h = tabulate_ext (record_at p) (record_at o) n h

pub records_more : (l : Bytes) (n : ℕ) → records_to l (suc n) ≡ records_to l n ++ record_at l n ∷ []
unfolding records_to tabulate
records_more l n = refl

pub length_records : (l : Bytes) (n : ℕ) → length (records_to l n) ≡ n
unfolding records_to
length_records l n = length_tabulate (record_at l) n

pub bits_records_to : (l : Bytes) (n : ℕ) → bits_in l (2 * n) ≡ record_bits (records_to l n)
unfolding bits_in records_to tabulate record_bits
bits_records_to l zero = refl
bits_records_to l (suc n) =
    let z : 2 * suc n ≡ suc (suc (2 * n)) = omega arith in
    let y : suc (2 * n) ≡ 2 * n + 1 = omega arith in
    rw (z, bits_append (tabulate (record_at l) n) (record_at l n ∷ []), ← bits_records_to l n, y)
    (unfold record_at in append_assoc (tabulate (bit_at l) (2 * n)) (bit_at l (2 * n) ∷ []) (bit_at l (2 * n + 1) ∷ []))

pub put_more : (o u : Bytes) (i z : ℕ) → Put i z o u → records_to u (suc i) ≡ records_to o i ++ record_of_code z ∷ []
put_more o u i z p = records_more u i ∙ rw (p.here, records_same u o i (λ j l. p.other j (λ f. omega arith)))

pub push_ok : (o p : Bytes) (n z end : ℕ) (b : Bool) → Put n z o p → has_edge (record_of_code z) ≡ b → end ≡ n + bit b → Pushed n z o p end
unfolding those
push_ok o p n z end true w e c =
    let y : end ≡ suc n = omega arith in
    record { records = rw (y, e) (put_more o p n z w); count = rw e c; size = w.size }
push_ok o p n z end false w e c =
    let y : end ≡ n = omega arith in
    record { records = rw (y, e, append-nil) (records_same p o n (λ j l. w.other j (λ f. omega arith))); count = rw e c; size = w.size }

-- ---- Flags
pub flags_records : (q : Bytes) (n : ℕ) → flags_to q n ≡ map flag_of_record (records_to q n)
unfolding flags_to records_to flag_of_record flag_at
flags_records q n = rw (map_tabulate (λ r. flag_of_record r) (record_at q) n)
