-- Set bits of bytes, counted byte by byte.
use mathlib.Core.Path.{◌≡◌, sym, ap, ◌∙◌}
use Prim.Native.Nat.{ℕ, zero, suc, ◌+◌, ◌-◌, ◌*◌, ◌/◌, ◌%◌, ◌^◌, ◌≤◌, ◌<◌}
use mathlib.Core.Bool.{Bool}
use mathlib.Core.List.{◌++◌}
use native.Mathlib.Omega.{arith}
use native.Mathlib.Nat.{pow-suc, div-div-eq-div-mul, div-le_self}
use lib.ListN.{take, drop, get_or}
use lib.Seq.{get_or-drop, take_at}
use lib.Count
use Rattle.loes.specs.Bytes.{Bytes, odd, tabulate, bit_at, bits_in, bits_value}
use Rattle.loes.specs.Edges.{ones, rank}
use Rattle.loes.proofs.Lists.{ones_append, ones_le}
use Rattle.loes.proofs.Bytes.{length_tabulate}
use Rattle.loes.proofs.Bits.{at_bit, tabulate_ext, count_bits_value, byte_bits_value, bit_odd, bits_value_snoc, tabulate_add, length_bits_in}
use Rattle.bits.specs.Tables.{bits8}

pub ones_bits_le : (l : Bytes) (n : ℕ) → ones (bits_in l n) ≤ n
ones_bits_le l n = omega (arith, ones_le (bits_in l n), length_bits_in l n)

-- the first k of b bits
pub rank_bits : (l : Bytes) (b k : ℕ) → k ≤ b → rank (bits_in l b) k ≡ ones (bits_in l k)
unfolding rank bits_in
rank_bits l b k h =
    let z : k + (b - k) ≡ b = omega arith in
    ap (λ n. ones (take k (tabulate (bit_at l) n))) (sym z)
    ∙ rw (tabulate_add (bit_at l) k (b - k), take_at (tabulate (bit_at l) k) (tabulate (λ (j : ℕ). bit_at l (k + j)) (b - k)) k (length_tabulate (bit_at l) k))

-- the bits from byte i on
pub bit_from : (l : Bytes) (i j : ℕ) → bit_at l (8 * i + j) ≡ bit_at (drop i l) j
unfolding bit_at
bit_from l i j =
    let q : (8 * i + j) / 8 ≡ i + j / 8 = omega arith in
    let r : (8 * i + j) % 8 ≡ j % 8 = omega arith in
    rw (q, r, get_or-drop i l (j / 8) 0)

bits_from : (l : Bytes) (i n : ℕ) → tabulate (λ (j : ℕ). bit_at l (8 * i + j)) n ≡ bits_in (drop i l) n
unfolding bits_in
bits_from l i n = tabulate_ext (λ (j : ℕ). bit_at l (8 * i + j)) (bit_at (drop i l)) n (λ j h. bit_from l i j)

-- the bits of i bytes and n bits more
pub bits_more : (l : Bytes) (i n : ℕ) → bits_in l (8 * i + n) ≡ bits_in l (8 * i) ++ bits_in (drop i l) n
unfolding bits_in
bits_more l i n = tabulate_add (bit_at l) (8 * i) n ∙ ap (λ x. tabulate (bit_at l) (8 * i) ++ x) (bits_from l i n)

pub ones_more : (l : Bytes) (i n : ℕ) → ones (bits_in l (8 * i + n)) ≡ ones (bits_in l (8 * i)) + ones (bits_in (drop i l) n)
ones_more l i n = ap ones (bits_more l i n) ∙ ones_append (bits_in l (8 * i)) (bits_in (drop i l) n)

-- up to an offset that is k bits behind byte i's front
pub ones_at : (l : Bytes) (i k o : ℕ) → 8 * i + k ≡ o → ones (bits_in l o) ≡ ones (bits_in l (8 * i)) + ones (bits_in (drop i l) k)
ones_at l i k o z = ap (λ n. ones (bits_in l n)) (sym z) ∙ ones_more l i k

-- the first k bits of byte i
pub byte_bits : (l : Bytes) (i k : ℕ) → k ≤ 8 → bits_in (drop i l) k ≡ tabulate (λ (j : ℕ). odd (get_or l i 0 / 2 ^ (7 - j))) k
byte_bits l i k h =
    sym (bits_from l i k)
    ∙ tabulate_ext (λ (j : ℕ). bit_at l (8 * i + j)) (λ (j : ℕ). odd (get_or l i 0 / 2 ^ (7 - j))) k (λ j q. at_bit l i j (omega arith))

pub byte_more : (l : Bytes) (n : ℕ) → bits_in l (8 * suc n) ≡ bits_in l (8 * n) ++ bits8 (get_or l n 0)
unfolding bits8
byte_more l n =
    let z : 8 * suc n ≡ 8 * n + 8 = omega arith in
    ap (bits_in l) z ∙ bits_more l n 8 ∙ ap (λ x. bits_in l (8 * n) ++ x) (byte_bits l n 8 (omega arith))

-- one byte more is counted
pub byte_counted : (l : Bytes) (i n k : ℕ) → n ≡ ones (bits_in l (8 * i)) → k ≡ ones (bits8 (get_or l i 0)) → n + k ≡ ones (bits_in l (8 * (i + 1)))
byte_counted l i n k e q =
    let z : i + 1 ≡ suc i = omega arith in
    rw (z, byte_more l i, ones_append, e, q)

pub byte_ones_le : (x : ℕ) → ones (bits8 x) ≤ 8
unfolding bits8
byte_ones_le x = omega (arith, ones_le (bits8 x), length_tabulate (λ (j : ℕ). odd (x / 2 ^ (7 - j))) 8)

-- ---- The first bits of a byte are the bits of what is left when it is shifted
front_value : (x k : ℕ) → x < 256 → k ≤ 8 → bits_value (tabulate (λ (j : ℕ). odd (x / 2 ^ (7 - j))) k) 0 ≡ x / 2 ^ (8 - k)
unfolding tabulate
front_value x zero h l = unfold bits_value in omega arith
front_value x (suc k) h l =
    let f : ℕ → Bool = λ (j : ℕ). odd (x / 2 ^ (7 - j)) in
    let y : ℕ = x / 2 ^ (7 - k) in
    let z : 8 - k ≡ suc (7 - k) = omega arith in
    let w : 8 - suc k ≡ 7 - k = omega arith in
    let d : x / 2 ^ (8 - k) ≡ y / 2 = ap (λ n. x / 2 ^ n) z ∙ ap (λ n. x / n) (pow-suc 2 (7 - k)) ∙ sym (div-div-eq-div-mul x (2 ^ (7 - k)) 2) in
    bits_value_snoc (tabulate f k) (f k) 0 ∙ rw (front_value x k h (omega arith), bit_odd y, w, d) (omega arith)

pub count_byte : (x : ℕ) → x < 256 → ones (bits8 x) ≡ Count.ones x
unfolding bits8
count_byte x h = let f : ℕ → Bool = λ (j : ℕ). odd (x / 2 ^ (7 - j)) in sym (count_bits_value f 8) ∙ ap Count.ones (byte_bits_value x h)

pub shift_small : (x k : ℕ) → x < 256 → x / 2 ^ k < 256
shift_small x k h = omega (arith, div-le_self x (2 ^ k))

-- byte i, shifted so that k bits are left
pub part_ones : (l : Bytes) (i k : ℕ) → get_or l i 0 < 256 → k ≤ 8 → ones (bits8 (get_or l i 0 / 2 ^ (8 - k))) ≡ ones (bits_in (drop i l) k)
part_ones l i k h q =
    let x : ℕ = get_or l i 0 in
    let f : ℕ → Bool = λ (j : ℕ). odd (x / 2 ^ (7 - j)) in
    count_byte (x / 2 ^ (8 - k)) (shift_small x (8 - k) h) ∙ ap Count.ones (sym (front_value x k h q)) ∙ count_bits_value f k ∙ ap ones (sym (byte_bits l i k q))
