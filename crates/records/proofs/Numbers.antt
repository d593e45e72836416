-- Records in numbers: runs one behind the other, windows, and runs put into bytes.
use mathlib.Core.Path.{◌≡◌, refl, sym, ap, ap₂, ◌∙◌}
use Prim.Native.Nat.{ℕ, zero, suc, ◌+◌, ◌-◌, ◌*◌, ◌/◌, ◌%◌, ◌^◌, ◌≤◌, ◌<◌}
use mathlib.Core.List.{List, [], ◌∷◌, ◌++◌, append-nil, append_assoc}
use native.Mathlib.Omega.{arith}
use Rattle.std.specs.Int.{byte_at, bytes_high_first}
use Rattle.std.proofs.lemmas.List.{get_or-append-add, get_or-take, length-take-le}
use native.Mathlib.Decide.{ℕ_discrete}
use native.Mathlib.Nat.{pow-suc, suc-mul, mul-le-mul_right, mod-lt}
use lib.ListN.{length, get_or, set, take, drop, length-append, length-drop, get_or-append}
use borrow.Rule.Slice.PartMut.{put_mid}
use Rattle.std.proofs.lemmas.Slice.{take-put_mid}
use lib.Seq.{get_or-set_same, get_or-set_other, take_at, drop_at}
use lib.Pow.{pow_pos, pow_mono, pow-add, shr_lt, shl_exact, split}
use Rattle.loes.specs.Bytes.{Bytes, tabulate}
use Rattle.loes.specs.Edges.{Record}
use Rattle.loes.proofs.Tree.{length_snoc}
use Rattle.loes.proofs.Bytes.{append_inj, length_tabulate}
use Rattle.loes.proofs.Bits.{tabulate_add, tabulate_ext}
use Rattle.records.specs.Records.{record_of_code, code_in, record_at, records_to, records_at}
use Rattle.records.specs.Numbers.{records_of, eight_of, Short, Appended}
use Rattle.records.proofs.Codes.{cases4, code_at, records_same, length_records}

-- ---- Runs one behind the other
pow_four : (n : ℕ) → 2 ^ (2 * suc n) ≡ 4 * 2 ^ (2 * n)
pow_four n =
    let z : 2 * suc n ≡ suc (suc (2 * n)) = omega arith in
    rw (z, pow-suc 2 (suc (2 * n)), pow-suc 2 (2 * n)) (omega arith)

pub length_run : (n x : ℕ) → length (records_of n x) ≡ n
unfolding records_of
length_run zero x = refl
length_run (suc n) x = length_snoc (records_of n (x / 4)) (record_of_code (x % 4)) ∙ ap suc (length_run n (x / 4))

mul_four : (x p : ℕ) → x * (4 * p) ≡ 4 * (x * p)
mul_four x p = omega arith

-- all shifting is this one law
pub cat : (m n x y : ℕ) → y < 2 ^ (2 * n) → records_of (m + n) (x * 2 ^ (2 * n) + y) ≡ records_of m x ++ records_of n y
unfolding records_of
cat m zero x y h =
    let z : m + 0 ≡ m = omega arith in
    let e : x * 2 ^ (2 * 0) + y ≡ x = omega arith in
    rw (z, e) (sym (append-nil (records_of m x)))
cat m (suc n) x y h =
    let z : m + suc n ≡ suc (m + n) = omega arith in
    let p : ℕ = 2 ^ (2 * n) in
    let f : 2 ^ (2 * suc n) ≡ 4 * p = pow_four n in
    let g : x * 2 ^ (2 * suc n) ≡ 4 * (x * p) = ap (λ t. x * t) f ∙ mul_four x p in
    let l : y / 4 < p = omega arith in
    let d : (x * 2 ^ (2 * suc n) + y) / 4 ≡ x * p + y / 4 = omega arith in
    let r : (x * 2 ^ (2 * suc n) + y) % 4 ≡ y % 4 = omega arith in
    rw (z, d, r, cat m n x (y / 4) l, append_assoc)

-- the last n of m + n records of a number
pub cut : (m n x : ℕ) → records_of (m + n) x ≡ records_of m (x / 2 ^ (2 * n)) ++ records_of n (x % 2 ^ (2 * n))
cut m n x = rw (split x (2 * n)) at (cat m n (x / 2 ^ (2 * n)) (x % 2 ^ (2 * n)) (mod-lt x (pow_pos (2 * n))))

pub halves : (x : ℕ) → records_of 4 x ≡ records_of 2 (x / 16) ++ records_of 2 (x % 16)
halves x = cut 2 2 x

-- the first r, the next n and the last s
pub thirds : (r n s x : ℕ) → records_of (r + n + s) x ≡ records_of r (x / 2 ^ (2 * s) / 2 ^ (2 * n)) ++ (records_of n (x / 2 ^ (2 * s) % 2 ^ (2 * n)) ++ records_of s (x % 2 ^ (2 * s)))
thirds r n s x =
    cut (r + n) s x ∙ ap (λ l. l ++ records_of s (x % 2 ^ (2 * s))) (cut r n (x / 2 ^ (2 * s)))
    ∙ append_assoc (records_of r (x / 2 ^ (2 * s) / 2 ^ (2 * n))) (records_of n (x / 2 ^ (2 * s) % 2 ^ (2 * n))) (records_of s (x % 2 ^ (2 * s)))

-- a run of j bits and one of k behind it
cat_lt : {a w : ℕ} (j k : ℕ) → a < 2 ^ j → w < 2 ^ k → a * 2 ^ k + w < 2 ^ (j + k)
cat_lt {a} {w} j k h l =
    let e : 2 ^ (j + k) ≡ 2 ^ j * 2 ^ k = pow-add 2 j k in
    let f : suc a * 2 ^ k ≤ 2 ^ j * 2 ^ k = mul-le-mul_right (2 ^ k) h in
    let g : suc a * 2 ^ k ≡ a * 2 ^ k + 2 ^ k = suc-mul a (2 ^ k) in
    omega arith

-- two runs of at most eight records
pub run_ok : (h m g n : ℕ) → Short 8 h m → Short 8 g n → (h * 2 ^ n % 2 ^ 64 ≡ h * 2 ^ n) × (h * 2 ^ n + g < 2 ^ (m + n))
run_ok h m g n a c = (shl_exact m n 64 a.0 (omega (arith, a.1, c.1)), cat_lt m n a.0 c.0)

pub run_cat : (h m g n : ℕ) → Short 8 h m → Short 8 g n → records_of ((m + n) / 2) (h * 2 ^ n + g) ≡ records_of (m / 2) h ++ records_of (n / 2) g
run_cat h m g n a c =
    let z : (m + n) / 2 ≡ m / 2 + n / 2 = omega (arith, a.2, c.2) in
    let f : 2 * (n / 2) ≡ n = c.2 in
    let l : g < 2 ^ (2 * (n / 2)) = rw f c.0 in
    rw z (rw f at (cat (m / 2) (n / 2) h g l))

-- ---- The four records of a byte
at_byte : (l : Bytes) (j k : ℕ) → k < 4 → record_at l (4 * j + k) ≡ record_of_code (code_in (get_or l j 0) k)
at_byte l j k h =
    let q : (4 * j + k) / 4 ≡ j = omega arith in
    let r : (4 * j + k) % 4 ≡ k = omega arith in
    rw (q, r) at (code_at l (4 * j + k))

pub byte_run : (l : Bytes) (j : ℕ) → records_at l (4 * j) 4 ≡ records_of 4 (get_or l j 0)
unfolding records_at tabulate records_of code_in
byte_run l j =
    let x : ℕ = get_or l j 0 in
    let a : x / 2 ^ (6 - 2 * 0) % 4 ≡ x / 4 / 4 / 4 % 4 = omega arith in
    let b : x / 2 ^ (6 - 2 * 1) % 4 ≡ x / 4 / 4 % 4 = omega arith in
    let c : x / 2 ^ (6 - 2 * 2) % 4 ≡ x / 4 % 4 = omega arith in
    let d : x / 2 ^ (6 - 2 * 3) % 4 ≡ x % 4 = omega arith in
    let ea : record_at l (4 * j + 0) ≡ record_of_code (x / 4 / 4 / 4 % 4) = at_byte l j 0 (omega arith) ∙ ap record_of_code a in
    let eb : record_at l (4 * j + 1) ≡ record_of_code (x / 4 / 4 % 4) = at_byte l j 1 (omega arith) ∙ ap record_of_code b in
    let ec : record_at l (4 * j + 2) ≡ record_of_code (x / 4 % 4) = at_byte l j 2 (omega arith) ∙ ap record_of_code c in
    let ed : record_at l (4 * j + 3) ≡ record_of_code (x % 4) = at_byte l j 3 (omega arith) ∙ ap record_of_code d in
    rw (ea, eb, ec, ed)

pub records_add : (l : Bytes) (i n : ℕ) → records_to l (i + n) ≡ records_to l i ++ records_at l i n
unfolding records_to records_at
records_add l i n = tabulate_add (record_at l) i n

pub at_add : (l : Bytes) (i m n : ℕ) → records_at l i (m + n) ≡ records_at l i m ++ records_at l (i + m) n
unfolding records_at
at_add l i m n =
    tabulate_add (λ (k : ℕ). record_at l (i + k)) m n
    ∙ ap (λ t. tabulate (λ (k : ℕ). record_at l (i + k)) m ++ t)
    (tabulate_ext (λ (k : ℕ). record_at l (i + (m + k))) (λ (k : ℕ). record_at l (i + m + k)) n (λ k h. let z : i + (m + k) ≡ i + m + k = omega arith in rw z))

-- n bytes from byte j on, and one more
pub bytes_more : (l : Bytes) (j n : ℕ) → records_at l (4 * j) (4 * n + 4) ≡ records_at l (4 * j) (4 * n) ++ records_of 4 (get_or l (j + n) 0)
bytes_more l j n =
    let z : 4 * j + 4 * n ≡ 4 * (j + n) = omega arith in
    at_add l (4 * j) (4 * n) 4 ∙ ap (λ t. records_at l (4 * j) (4 * n) ++ t) (ap (λ i. records_at l i 4) z ∙ byte_run l (j + n))

pub byte_more : (l : Bytes) (j : ℕ) → records_to l (4 * j + 4) ≡ records_to l (4 * j) ++ records_of 4 (get_or l j 0)
byte_more l j = records_add l (4 * j) 4 ∙ ap (λ t. records_to l (4 * j) ++ t) (byte_run l j)

pub length_at : (l : Bytes) (i n : ℕ) → length (records_at l i n) ≡ n
unfolding records_at
length_at l i n = length_tabulate (λ k. record_at l (i + k)) n

records_take : (l : Bytes) (n m : ℕ) → n ≤ m → take n (records_to l m) ≡ records_to l n
records_take l n m h =
    let z : n + (m - n) ≡ m = omega arith in
    let e : records_to l m ≡ records_to l n ++ records_at l n (m - n) = rw z at (records_add l n (m - n)) in
    rw e (take_at (records_to l n) (records_at l n (m - n)) n (length_records l n))

-- ---- Windows: records from any place on
-- sixteen records of four bytes
pub sixteen : (l : Bytes) (j a b c d : ℕ) → a ≡ get_or l j 0 → b ≡ get_or l (j + 1) 0 → c ≡ get_or l (j + 2) 0 → d ≡ get_or l (j + 3) 0 → b < 256 → c < 256 → d < 256
    → records_of 16 (a * 16777216 + b * 65536 + c * 256 + d) ≡ records_at l (4 * j) 16
sixteen l j a b c d ea eb ec ed hb hc hd =
    let z : (a * 256 + b) * 256 + c ≡ a * 65536 + b * 256 + c = omega arith in
    let y : (a * 65536 + b * 256 + c) * 256 + d ≡ a * 16777216 + b * 65536 + c * 256 + d = omega arith in
    let e2 : records_of 8 (a * 256 + b) ≡ records_at l (4 * j) 8 =
    cat 4 4 a b hb ∙ sym (bytes_more l j 1 ∙ ap₂ (λ s t. s ++ t) (byte_run l j ∙ ap (records_of 4) (sym ea)) (ap (records_of 4) (sym eb))) in
    let e3 : records_of 12 ((a * 256 + b) * 256 + c) ≡ records_at l (4 * j) 12 = cat 8 4 (a * 256 + b) c hc ∙ ap₂ (λ s t. s ++ t) e2 (ap (records_of 4) ec) ∙ sym (bytes_more l j 2) in
    let e4 : records_of 16 ((a * 65536 + b * 256 + c) * 256 + d) ≡ records_at l (4 * j) 16 =
    cat 12 4 (a * 65536 + b * 256 + c) d hd ∙ ap₂ (λ s t. s ++ t) (rw z at e3) (ap (records_of 4) ed) ∙ sym (bytes_more l j 3) in
    rw y at e4

-- of the records from record i's byte on, in a number: n from record i on, with s behind them
run_at : (l : Bytes) (i n s x : ℕ) → records_of (i % 4 + n + s) x ≡ records_at l (4 * (i / 4)) (i % 4 + n + s) → records_of n (x / 2 ^ (2 * s) % 2 ^ (2 * n)) ≡ records_at l i n
run_at l i n s x e =
    let j : ℕ = i / 4 in
    let r : ℕ = i % 4 in
    let k : 4 * j + r ≡ i = omega arith in
    let f : records_at l (4 * j) (r + n + s) ≡ records_at l (4 * j) r ++ (records_at l i n ++ records_at l (4 * j + (r + n)) s) =
    at_add l (4 * j) (r + n) s ∙ ap (λ t. t ++ records_at l (4 * j + (r + n)) s) (at_add l (4 * j) r n ∙ ap (λ t. records_at l (4 * j) r ++ records_at l t n) k)
    ∙ append_assoc (records_at l (4 * j) r) (records_at l i n) (records_at l (4 * j + (r + n)) s) in
    let g = (append_inj (records_of r (x / 2 ^ (2 * s) / 2 ^ (2 * n))) (records_at l (4 * j) r) (records_of n (x / 2 ^ (2 * s) % 2 ^ (2 * n)) ++ records_of s (x % 2 ^ (2 * s))) (records_at l i n ++ records_at l (4 * j + (r + n)) s)
    (length_run r (x / 2 ^ (2 * s) / 2 ^ (2 * n)) ∙ sym (length_at l (4 * j) r)) (sym (thirds r n s x) ∙ e ∙ f)).1 in
    (append_inj (records_of n (x / 2 ^ (2 * s) % 2 ^ (2 * n))) (records_at l i n) (records_of s (x % 2 ^ (2 * s))) (records_at l (4 * j + (r + n)) s) (length_run n (x / 2 ^ (2 * s) % 2 ^ (2 * n)) ∙ sym (length_at l i n)) g).0

-- moved to the upper bits of a word
word_up : (x k : ℕ) → k < 4 → x * 2 ^ (32 + 2 * k) % 2 ^ 64 / 2 ^ 48 ≡ x / 2 ^ (16 - 2 * k) % 65536
word_up x k h = cases4 (λ k. x * 2 ^ (32 + 2 * k) % 2 ^ 64 / 2 ^ 48 ≡ x / 2 ^ (16 - 2 * k) % 65536) (omega arith) (omega arith) (omega arith) (omega arith) k h

pub window_ok : (l : Bytes) (i x : ℕ) → records_of 16 x ≡ records_at l (4 * (i / 4)) 16 → eight_of (x * 2 ^ (32 + 2 * (i % 4)) % 2 ^ 64) ≡ records_at l i 8
unfolding eight_of
window_ok l i x e =
    let n : i % 4 + 8 + (8 - i % 4) ≡ 16 = omega arith in
    let z : 16 - 2 * (i % 4) ≡ 2 * (8 - i % 4) = omega arith in
    rw (word_up x (i % 4) (omega arith), z) (run_at l i 8 (8 - i % 4) x (rw n e))

-- sixteen, from twenty: x has the first sixteen of them, y the last four
long_up : (x k : ℕ) → k < 4 → x * 2 ^ (24 + 2 * k) % 2 ^ 64 / 4294967296 ≡ x / 2 ^ (8 - 2 * k) % 2 ^ 32
long_up x k h = cases4 (λ k. x * 2 ^ (24 + 2 * k) % 2 ^ 64 / 4294967296 ≡ x / 2 ^ (8 - 2 * k) % 2 ^ 32) (omega arith) (omega arith) (omega arith) (omega arith) k h

pub long_window : (l : Bytes) (i x y : ℕ) → records_of 16 x ≡ records_at l (4 * (i / 4)) 16 → y ≡ get_or l (i / 4 + 4) 0 → y < 256
    → records_of 16 ((x * 256 + y) * 2 ^ (24 + 2 * (i % 4)) % 2 ^ 64 / 4294967296) ≡ records_at l i 16
long_window l i x y ex ey h =
    let n : i % 4 + 16 + (4 - i % 4) ≡ 20 = omega arith in
    let z : 8 - 2 * (i % 4) ≡ 2 * (4 - i % 4) = omega arith in
    let e : records_of 20 (x * 256 + y) ≡ records_at l (4 * (i / 4)) 20 = cat 16 4 x y h ∙ ap₂ (λ s t. s ++ t) ex (ap (records_of 4) ey) ∙ sym (bytes_more l (i / 4) 4) in
    rw (long_up (x * 256 + y) (i % 4) (omega arith), z) (run_at l i 16 (4 - i % 4) (x * 256 + y) (rw n e))

-- four records behind the first n of eight
four_of : (x n : ℕ) → n ≤ 4 → records_of 4 (x / 2 ^ (8 - 2 * n) % 256) ≡ take 4 (drop n (records_of 8 x))
four_of x n h =
    let s : ℕ = 4 - n in
    let z : 8 - 2 * n ≡ 2 * s = omega arith in
    let k : n + 4 + s ≡ 8 = omega arith in
    let A : List Record = records_of n (x / 2 ^ (2 * s) / 2 ^ (2 * 4)) in
    let B : List Record = records_of 4 (x / 2 ^ (2 * s) % 2 ^ (2 * 4)) in
    let C : List Record = records_of s (x % 2 ^ (2 * s)) in
    let e : records_of 8 x ≡ A ++ (B ++ C) = rw k at (thirds n 4 s x) in
    rw z (sym (ap (λ l. take 4 (drop n l)) e ∙ ap (take 4) (drop_at A (B ++ C) n (length_run n (x / 2 ^ (2 * s) / 2 ^ (2 * 4)))) ∙ take_at B C 4 (length_run 4 (x / 2 ^ (2 * s) % 2 ^ (2 * 4)))))

-- as the shifts of a word give them
word_down : (x n : ℕ) → n ≤ 4 → x * 2 ^ (2 * n) % 2 ^ 64 / 2 ^ 56 ≡ x / 2 ^ 48 / 2 ^ (8 - 2 * n) % 256
word_down x n h = elim (ℕ_discrete n 4) [
  | yes y ↦ rw y (omega arith)
  | no y ↦ cases4 (λ n. x * 2 ^ (2 * n) % 2 ^ 64 / 2 ^ 56 ≡ x / 2 ^ 48 / 2 ^ (8 - 2 * n) % 256) (omega arith) (omega arith) (omega arith) (omega arith) n (omega arith)
]

pub four_in_ok : (x n : ℕ) → n ≤ 4 → records_of 4 (x * 2 ^ (2 * n) % 2 ^ 64 / 2 ^ 56) ≡ take 4 (drop n (eight_of x))
unfolding eight_of
four_in_ok x n h = rw (word_down x n h) (four_of (x / 2 ^ 48) n h)

-- they are those from n places on
pub window_at : (l : Bytes) (i n v : ℕ) → eight_of v ≡ records_at l i 8 → n ≤ 4 → take 4 (drop n (eight_of v)) ≡ records_at l (i + n) 4
window_at l i n v e h =
    let s : ℕ = 4 - n in
    let k : n + 4 + s ≡ 8 = omega arith in
    let A : List Record = records_at l i n in
    let B : List Record = records_at l (i + n) 4 in
    let C : List Record = records_at l (i + (n + 4)) s in
    let f : records_at l i (n + 4 + s) ≡ A ++ (B ++ C) = at_add l i (n + 4) s ∙ ap (λ t. t ++ C) (at_add l i n 4) ∙ append_assoc A B C in
    ap (λ t. take 4 (drop n t)) (e ∙ rw k at f) ∙ ap (take 4) (drop_at A (B ++ C) n (length_at l i n)) ∙ take_at B C 4 (length_at l (i + n) 4)

-- ---- The records in front of record k
front : (q : Bytes) (k : ℕ) → records_to q k ≡ records_to q (4 * (k / 4)) ++ records_of (k % 4) (get_or q (k / 4) 0 / 2 ^ (2 * (4 - k % 4)))
front q k =
    let i : ℕ = k / 4 in
    let r : ℕ = k % 4 in
    let x : ℕ = get_or q i 0 in
    let s : ℕ = 4 - r in
    let z : r + s ≡ 4 = omega arith in
    let c : records_of 4 x ≡ records_of r (x / 2 ^ (2 * s)) ++ records_of s (x % 2 ^ (2 * s)) = rw z at (cut r s x) in
    let e : records_to q (4 * i + 4) ≡ (records_to q (4 * i) ++ records_of r (x / 2 ^ (2 * s))) ++ records_of s (x % 2 ^ (2 * s)) =
    byte_more q i ∙ rw c (sym (append_assoc (records_to q (4 * i)) (records_of r (x / 2 ^ (2 * s))) (records_of s (x % 2 ^ (2 * s))))) in
    let n : length (records_to q (4 * i) ++ records_of r (x / 2 ^ (2 * s))) ≡ k =
    omega (arith, length-append (records_to q (4 * i)) (records_of r (x / 2 ^ (2 * s))), length_records q (4 * i), length_run r (x / 2 ^ (2 * s))) in
    sym (records_take q k (4 * i + 4) (omega arith)) ∙ ap (take k) e
    ∙ take_at (records_to q (4 * i) ++ records_of r (x / 2 ^ (2 * s))) (records_of s (x % 2 ^ (2 * s))) k n

-- ---- A run put behind the first k records
-- a byte set leaves the records in front of it, and its own are behind them
pub byte_set : (q : Bytes) (i x : ℕ) → i < length q → records_to (set q i x) (4 * i + 4) ≡ records_to q (4 * i) ++ records_of 4 x
byte_set q i x h =
    byte_more (set q i x) i
    ∙ ap₂ (λ s t. s ++ records_of 4 t)
    (records_same (set q i x) q (4 * i) (λ j l.
    let e : get_or (set q i x) (j / 4) 0 ≡ get_or q (j / 4) 0 = get_or-set_other q i (j / 4) x 0 (λ f. omega arith) in
    code_at (set q i x) j ∙ rw e (sym (code_at q j))))
    (get_or-set_same q i x 0 h)

-- ---- Bytes put behind others: the records in front of them stay, and theirs are behind
in_front : (xs ys : Bytes) (n : ℕ) → n ≤ 4 * length xs → records_to (xs ++ ys) n ≡ records_to xs n
in_front xs ys n h =
    records_same (xs ++ ys) xs n (λ j l.
    let e : get_or (xs ++ ys) (j / 4) 0 ≡ get_or xs (j / 4) 0 = get_or-append xs ys 0 (j / 4) (omega arith) in
    code_at (xs ++ ys) j ∙ rw e (sym (code_at xs j)))

behind : (xs ys : Bytes) (n : ℕ) → records_at (xs ++ ys) (4 * length xs) n ≡ records_to ys n
unfolding records_at records_to
behind xs ys n =
    tabulate_ext (λ k. record_at (xs ++ ys) (4 * length xs + k)) (record_at ys) n (λ k l.
    let a : (4 * length xs + k) / 4 ≡ length xs + k / 4 = omega arith in
    let b : (4 * length xs + k) % 4 ≡ k % 4 = omega arith in
    code_at (xs ++ ys) (4 * length xs + k) ∙ rw (a, b, get_or-append-add xs ys (k / 4) 0) (sym (code_at ys k)))

joined : (xs ys : Bytes) (n : ℕ) → records_to (xs ++ ys) (4 * length xs + n) ≡ records_to xs (4 * length xs) ++ records_to ys n
joined xs ys n =
    records_add (xs ++ ys) (4 * length xs) n ∙ ap₂ (λ s t. s ++ t) (in_front xs ys (4 * length xs) (omega arith)) (behind xs ys n)

taken : (p : Bytes) (n : ℕ) → records_to p (4 * n) ≡ records_to (take n p) (4 * n)
taken p n =
    records_same p (take n p) (4 * n) (λ j l.
    let e : get_or (take n p) (j / 4) 0 ≡ get_or p (j / 4) 0 = get_or-take n p (j / 4) 0 (omega arith) in
    code_at p j ∙ rw (sym e) (sym (code_at (take n p) j)))

pub pasted : (q p bs : Bytes) (i : ℕ) → i ≤ length q → take (i + length bs) p ≡ take i q ++ bs → records_to p (4 * i + 4 * length bs) ≡ records_to q (4 * i) ++ records_to bs (4 * length bs)
pasted q p bs i h e =
    let n : length (take i q) ≡ i = length-take-le i q h in
    let z : 4 * (i + length bs) ≡ 4 * i + 4 * length bs = omega arith in
    let f : records_to p (4 * i + 4 * length bs) ≡ records_to (take i q ++ bs) (4 * i + 4 * length bs) = rw (z, e) at (taken p (i + length bs)) in
    f ∙ rw n at (joined (take i q) bs (4 * length bs)) ∙ ap (λ t. t ++ records_to bs (4 * length bs)) (sym (taken q i))

-- the last n records of a number are those of what is left of it
low : (n x : ℕ) → records_of n x ≡ records_of n (x % 2 ^ (2 * n))
unfolding records_of
low n x =
    let z : 0 + n ≡ n = omega arith in
    rw z at (cut 0 n x)

pow_byte : (k : ℕ) → 256 ^ k ≡ 2 ^ (2 * (4 * k))
pow_byte zero = omega arith
pow_byte (suc k) =
    let z : 2 * (4 * suc k) ≡ 2 * (4 * k) + 8 = omega arith in
    rw (z, pow-add 2 (2 * (4 * k)) 8, pow-suc 256 k, pow_byte k)

byte_is : (k v : ℕ) → byte_at k v ≡ v / 2 ^ (2 * (4 * k)) % 256
byte_is zero v = omega arith
byte_is (suc k) v = ap (λ p. v / p % 256) (pow_byte (suc k))

byte_alone : (b : ℕ) → records_to (b ∷ []) 4 ≡ records_of 4 b
byte_alone b = byte_more (b ∷ []) 0 ∙ unfold records_to tabulate in refl

-- the low bytes of a number, the highest first: their records are its own
pub high_first : (k v : ℕ) → records_to (bytes_high_first k v) (4 * k) ≡ records_of (4 * k) v
high_first zero v = unfold records_to tabulate records_of in refl
high_first (suc k) v =
    let b : ℕ = byte_at k v in
    let n : 4 * suc k ≡ 4 + 4 * k = omega arith in
    rw n (joined (b ∷ []) (bytes_high_first k v) (4 * k) ∙ ap₂ (λ s t. s ++ t) (byte_alone b ∙ ap (records_of 4) (byte_is k v) ∙ sym (low 4 (v / 2 ^ (2 * (4 * k))))) (high_first k v ∙ low (4 * k) v) ∙ sym (cut 4 (4 * k) v))

pub put_run : (q bs : Bytes) (k m n w v : ℕ) → k / 4 + 7 < length q → n ≤ 16 → w < 2 ^ (2 * n)
    → v ≡ (get_or q (k / 4) 0 / 2 ^ (2 * (4 - k % 4)) * 2 ^ (2 * n) + w) * 2 ^ (2 * (32 - k % 4 - n))
    → m ≡ 8 → bs ≡ bytes_high_first 8 v → Appended k n w q (put_mid (k / 4) m q bs)
put_run q bs k m n w v h l s e whole eb =
    let i : ℕ = k / 4 in
    let r : ℕ = k % 4 in
    let t : ℕ = 32 - r - n in
    let x : ℕ = get_or q i 0 / 2 ^ (2 * (4 - r)) in
    let N : ℕ = x * 2 ^ (2 * n) + w in
    let p : Bytes = put_mid i m q bs in
    let eight : length bs ≡ 8 = ap length eb in
    let z : r + n + t ≡ 32 = omega arith in
    let y : N * 2 ^ (2 * t) + 0 ≡ v = e2 N (2 ^ (2 * t)) v (sym e) in
    let c : records_of 32 v ≡ records_of (r + n) N ++ records_of t 0 = rw (z, y) at (cat (r + n) t N 0 (pow_pos (2 * t))) in
    let d : records_of (r + n) N ≡ records_of r x ++ records_of n w = cat r n x w s in
    let f : records_to p (4 * i + 32) ≡ (records_to q k ++ records_of n w) ++ records_of t 0 =
    rw eight at (pasted q p bs i (omega arith) (take-put_mid i m q bs (i + length bs) refl (omega arith))) ∙ rw (eb, high_first 8 v, c, d, front q k) (assoc (records_to q (4 * i)) (records_of r x) (records_of n w) (records_of t 0)) in
    let front_end : length (records_to q k ++ records_of n w) ≡ k + n = omega (arith, length-append (records_to q k) (records_of n w), length_records q k, length_run n w) in
    record {
      records = sym (records_take p (k + n) (4 * i + 32) (omega arith)) ∙ ap (take (k + n)) f ∙ take_at (records_to q k ++ records_of n w) (records_of t 0) (k + n) front_end;
      size = omega (arith, length-append (take i q) (bs ++ drop m (drop i q)), length-append bs (drop m (drop i q)), length-take-le i q (omega arith), length-drop m (drop i q), length-drop i q);
    }
  where
    e2 : (a b c : ℕ) → a * b ≡ c → a * b + 0 ≡ c
    e2 a b c e = omega arith

    assoc : {A : Type 0} (a b c d : List A) → a ++ ((b ++ c) ++ d) ≡ ((a ++ b) ++ c) ++ d
    assoc a b c d = simp append_assoc

-- as the shifts of a number of 64 bits give it: the k % 4 records in front in x, and a run of b bits of w
abbrev pub Spliced : ℕ → ℕ → ℕ → ℕ → Type 0
Spliced x r b w =
    (x / 2 ^ (8 - 2 * r) * 2 ^ b % 2 ^ 64 + w < 2 ^ 38)
    × ((x / 2 ^ (8 - 2 * r) * 2 ^ b % 2 ^ 64 + w) * 2 * 2 ^ (63 - 2 * r - b) % 2 ^ 64 ≡ (x / 2 ^ (2 * (4 - r)) * 2 ^ (2 * (b / 2)) + w) * 2 ^ (2 * (32 - r - b / 2)))

double : (a n : ℕ) → a * 2 * 2 ^ n ≡ a * 2 ^ suc n
double a n = rw (pow-suc 2 n) (regroup a (2 ^ n))
  where
    regroup : (a p : ℕ) → a * 2 * p ≡ a * (p * 2)
    regroup a p = omega arith

pub spliced : (x k b w : ℕ) → x < 256 → Short 16 w b → Spliced x (k % 4) b w
spliced x k b w h s =
    let r : ℕ = k % 4 in
    let a : ℕ = x / 2 ^ (8 - 2 * r) in
    let z : 2 * r + (8 - 2 * r) ≡ 8 = omega arith in
    let u : 2 * (4 - r) ≡ 8 - 2 * r = omega arith in
    let c : 2 * (b / 2) ≡ b = s.2 in
    let l : b ≤ 32 = omega (arith, s.1) in
    let t : 2 * (32 - r - b / 2) ≡ suc (63 - 2 * r - b) = omega arith in
    let ha : a < 2 ^ (2 * r) = shr_lt (2 * r) (8 - 2 * r) (rw z h) in
    let hN : a * 2 ^ b + w < 2 ^ (2 * r + b) = cat_lt (2 * r) b ha s.0 in
    let e : a * 2 ^ b % 2 ^ 64 ≡ a * 2 ^ b = shl_exact (2 * r) b 64 ha (omega arith) in
    let d : (a * 2 ^ b + w) * 2 * 2 ^ (63 - 2 * r - b) ≡ (a * 2 ^ b + w) * 2 ^ suc (63 - 2 * r - b) = double (a * 2 ^ b + w) (63 - 2 * r - b) in
    let f : (a * 2 ^ b + w) * 2 ^ suc (63 - 2 * r - b) % 2 ^ 64 ≡ (a * 2 ^ b + w) * 2 ^ suc (63 - 2 * r - b) =
    shl_exact (2 * r + b) (suc (63 - 2 * r - b)) 64 hN (omega arith) in
    let o : 2 * r + b ≤ 38 = omega arith in
    let m : 2 ^ (2 * r + b) ≤ 2 ^ 38 = pow_mono {j = 38} o in
    (rw e (omega arith), rw (e, d, f, u, t, c))
