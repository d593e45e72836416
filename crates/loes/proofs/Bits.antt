-- Bits in bytes: what was packed is read, and bytes are what their bits pack to.
use mathlib.Core.Path.{◌≡◌, refl, sym, ap, ◌∙◌}
use Prim.Native.Nat.{ℕ, zero, suc, ◌+◌, ◌-◌, ◌*◌, ◌/◌, ◌%◌, ◌^◌, ◌≤◌, ◌<◌}
use mathlib.Core.Bool.{Bool, true, false}
use mathlib.Core.List.{List, [], ◌∷◌, ◌++◌, map, map-append, append-nil, append_assoc}
use native.Mathlib.Omega.{arith}
use native.Mathlib.Decide.{dec_le}
use lib.ListN.{length, take, drop, get_or, get_or-eq_default}
use lib.Seq.{ext_get_or, take-suc, drop_at, get_or-take}
use lib.Count
use lib.Dec.{eqb}
use Rattle.loes.proofs.Lists.{ones_append}
use Rattle.loes.specs.Bytes.{bit, odd, bit_at, bits_in, tabulate, started, bits_value, byte_of, pack_bits}
use Rattle.loes.specs.Edges.{ones}
use Rattle.loes.proofs.Tree.{bit_le}
use Rattle.loes.proofs.Bytes.{length_tabulate, get_d_tabulate}

-- bit j of a byte's value, from the most significant
pub bits_value_bit : (f : ℕ → Bool) (j : ℕ) → j < 8 → bits_value (tabulate f 8) 0 / 2 ^ (7 - j) % 2 ≡ bit (f j)
unfolding bits_value tabulate
bits_value_bit f zero h = omega (arith, bit_le (f 0), bit_le (f 1), bit_le (f 2), bit_le (f 3), bit_le (f 4), bit_le (f 5), bit_le (f 6), bit_le (f 7))
bits_value_bit f (suc zero) h = omega (arith, bit_le (f 0), bit_le (f 1), bit_le (f 2), bit_le (f 3), bit_le (f 4), bit_le (f 5), bit_le (f 6), bit_le (f 7))
bits_value_bit f (suc (suc zero)) h = omega (arith, bit_le (f 0), bit_le (f 1), bit_le (f 2), bit_le (f 3), bit_le (f 4), bit_le (f 5), bit_le (f 6), bit_le (f 7))
bits_value_bit f (suc (suc (suc zero))) h = omega (arith, bit_le (f 0), bit_le (f 1), bit_le (f 2), bit_le (f 3), bit_le (f 4), bit_le (f 5), bit_le (f 6), bit_le (f 7))
bits_value_bit f (suc (suc (suc (suc zero)))) h = omega (arith, bit_le (f 0), bit_le (f 1), bit_le (f 2), bit_le (f 3), bit_le (f 4), bit_le (f 5), bit_le (f 6), bit_le (f 7))
bits_value_bit f (suc (suc (suc (suc (suc zero))))) h = omega (arith, bit_le (f 0), bit_le (f 1), bit_le (f 2), bit_le (f 3), bit_le (f 4), bit_le (f 5), bit_le (f 6), bit_le (f 7))
bits_value_bit f (suc (suc (suc (suc (suc (suc zero)))))) h = omega (arith, bit_le (f 0), bit_le (f 1), bit_le (f 2), bit_le (f 3), bit_le (f 4), bit_le (f 5), bit_le (f 6), bit_le (f 7))
bits_value_bit f (suc (suc (suc (suc (suc (suc (suc zero))))))) h = omega (arith, bit_le (f 0), bit_le (f 1), bit_le (f 2), bit_le (f 3), bit_le (f 4), bit_le (f 5), bit_le (f 6), bit_le (f 7))
bits_value_bit f (suc (suc (suc (suc (suc (suc (suc (suc j)))))))) h = absurd (omega arith)

pub bits_value_lt : (f : ℕ → Bool) → bits_value (tabulate f 8) 0 < 256
unfolding bits_value tabulate
bits_value_lt f = omega (arith, bit_le (f 0), bit_le (f 1), bit_le (f 2), bit_le (f 3), bit_le (f 4), bit_le (f 5), bit_le (f 6), bit_le (f 7))

-- ---- reading: bit o of bytes
pub bit_odd : (n : ℕ) → bit (odd n) ≡ n % 2
unfolding odd
bit_odd n = go (n % 2) (omega arith)
  where
    go : (r : ℕ) → r < 2 → bit (eqb r 1) ≡ r
    go zero h = refl
    go (suc zero) h = refl
    go (suc (suc r)) h = absurd (omega arith)

pub odd_bit : (b : Bool) (n : ℕ) → n % 2 ≡ bit b → odd n ≡ b
unfolding odd
odd_bit false n e = rw e
odd_bit true n e = rw e

pub at_packed : (e : List Bool) (i : ℕ) → i < length e → bit_at (pack_bits e) i ≡ get_or e i false
unfolding bit_at pack_bits started byte_of
at_packed e i h =
    let q : i / 8 < started 8 (length e) = omega arith in
    let z : 8 * (i / 8) + i % 8 ≡ i = omega arith in
    odd_bit (get_or e i false) _ (rw (get_d_tabulate (byte_of e) (started 8 (length e)) (i / 8) 0 q) (rw z at (bits_value_bit (λ j. get_or e (8 * (i / 8) + j) false) (i % 8) (omega arith))))

-- what was packed is read
pub bits_packed : (e : List Bool) → bits_in (pack_bits e) (length e) ≡ e
unfolding bits_in
bits_packed e =
    ext_get_or false (tabulate (bit_at (pack_bits e)) (length e)) e (length_tabulate (bit_at (pack_bits e)) (length e))
    (λ i h.
    let l : i < length e = rw (length_tabulate (bit_at (pack_bits e)) (length e)) at h in
    get_d_tabulate (bit_at (pack_bits e)) (length e) i false l ∙ at_packed e i l)

-- a byte is the value of its bits
comb : (x a b c d e f g r0 r1 r2 r3 r4 r5 r6 : ℕ)
    → x ≡ 2 * a + r0 → a ≡ 2 * b + r1 → b ≡ 2 * c + r2 → c ≡ 2 * d + r3 → d ≡ 2 * e + r4 → e ≡ 2 * f + r5 → f ≡ 2 * g + r6
    → 2 * (2 * (2 * (2 * (2 * (2 * (2 * g + r6) + r5) + r4) + r3) + r2) + r1) + r0 ≡ x
comb x a b c d e f g r0 r1 r2 r3 r4 r5 r6 h0 h1 h2 h3 h4 h5 h6 = cc

pub byte_bits_value : (x : ℕ) → x < 256 → bits_value (tabulate (λ (j : ℕ). odd (x / 2 ^ (7 - j))) 8) 0 ≡ x
unfolding bits_value tabulate
byte_bits_value x h =
    let top : 2 * 0 + x / 128 % 2 ≡ x / 128 = omega arith in
    let bot : x / 1 ≡ x = omega arith in
    simp (bit_odd, top, bot)
    (comb x (x / 2) (x / 4) (x / 8) (x / 16) (x / 32) (x / 64) (x / 128) (x % 2) (x / 2 % 2) (x / 4 % 2) (x / 8 % 2) (x / 16 % 2) (x / 32 % 2) (x / 64 % 2)
    (omega arith) (omega arith) (omega arith) (omega arith) (omega arith) (omega arith) (omega arith))

pub tabulate_ext : {A : Type 0} (f g : ℕ → A) (n : ℕ) → ((i : ℕ) → i < n → f i ≡ g i) → tabulate f n ≡ tabulate g n
unfolding tabulate
tabulate_ext f g zero h = refl
tabulate_ext f g (suc n) h = rw (tabulate_ext f g n (λ i l. h i (omega arith)), h n (omega arith))

pub map_tabulate : {A B : Type 0} (g : A → B) (f : ℕ → A) (n : ℕ) → map g (tabulate f n) ≡ tabulate (λ (i : ℕ). g (f i)) n
unfolding tabulate
map_tabulate g f zero = refl
map_tabulate g f (suc n) = rw (map-append, map_tabulate g f n)

-- the first n of a list, by place
pub take_tabulate : (l : List ℕ) (n : ℕ) → n ≤ length l → take n l ≡ tabulate (λ (i : ℕ). get_or l i 0) n
unfolding tabulate
take_tabulate l zero h = refl
take_tabulate l (suc n) h = take-suc l n 0 h ∙ ap (λ x. x ++ get_or l n 0 ∷ []) (take_tabulate l n (omega arith))

pub tabulate_add : {A : Type 0} (f : ℕ → A) (n k : ℕ) → tabulate f (n + k) ≡ tabulate f n ++ tabulate (λ (j : ℕ). f (n + j)) k
unfolding tabulate
tabulate_add f n zero = let z : n + 0 ≡ n = omega arith in rw (z, append-nil)
tabulate_add f n (suc k) =
    let z : n + suc k ≡ suc (n + k) = omega arith in
    rw (z, tabulate_add f n k, append_assoc)

pub drop_tabulate : {A : Type 0} (f : ℕ → A) (i n : ℕ) → i ≤ n → drop i (tabulate f n) ≡ tabulate (λ (j : ℕ). f (i + j)) (n - i)
drop_tabulate f i n h =
    let z : i + (n - i) ≡ n = omega arith in
    let e : tabulate f n ≡ tabulate f i ++ tabulate (λ (j : ℕ). f (i + j)) (n - i) = rw z at (tabulate_add f i (n - i)) in
    rw e (drop_at (tabulate f i) (tabulate (λ (j : ℕ). f (i + j)) (n - i)) i (length_tabulate f i))

pub length_bits_in : (l : List ℕ) (n : ℕ) → length (bits_in l n) ≡ n
unfolding bits_in
length_bits_in l n = length_tabulate (bit_at l) n

-- bits of the front bytes
pub bit_taken : (l : List ℕ) (t o : ℕ) → o < 8 * t → bit_at (take t l) o ≡ bit_at l o
unfolding bit_at
bit_taken l t o h = let q : o / 8 < t = omega arith in rw (get_or-take t l (o / 8) 0)

pub bits_taken : (l : List ℕ) (t n : ℕ) → n ≤ 8 * t → bits_in (take t l) n ≡ bits_in l n
unfolding bits_in
bits_taken l t n h = tabulate_ext (bit_at (take t l)) (bit_at l) n (λ i g. bit_taken l t i (omega arith))

pub at_bit : (l : List ℕ) (i j : ℕ) → j < 8 → bit_at l (8 * i + j) ≡ odd (get_or l i 0 / 2 ^ (7 - j))
unfolding bit_at
at_bit l i j h =
    let q : (8 * i + j) / 8 ≡ i = omega arith in
    let r : (8 * i + j) % 8 ≡ j = omega arith in
    rw (q, r)

-- bytes whose left-over bits are clear are what their bits pack to
pub packed_bits : (l : List ℕ) (n : ℕ) → length l ≡ started 8 n → ((i : ℕ) → i < length l → get_or l i 0 < 256)
    → ((o : ℕ) → n ≤ o → o < 8 * length l → bit_at l o ≡ false) → pack_bits (bits_in l n) ≡ l
unfolding pack_bits bits_in started byte_of
packed_bits l n h small clear =
    let e : List Bool = tabulate (bit_at l) n in
    let le : length e ≡ n = length_tabulate (bit_at l) n in
    let lp : length (tabulate (byte_of e) (started 8 (length e))) ≡ length l = rw (length_tabulate, le) (sym h) in
    let each : (o : ℕ) → o < 8 * length l → get_or e o false ≡ bit_at l o = λ o q.
    elim (dec_le (suc o) n) [ yes y ↦ get_d_tabulate (bit_at l) n o false y | no y ↦ get_or-eq_default e false {n = o} (omega arith) ∙ sym (clear o (omega arith) q) ] in
    ext_get_or 0 (tabulate (byte_of e) (started 8 (length e))) l lp (λ i q.
    let il : i < length l = rw lp at q in
    let ix : i < started 8 (length e) = rw (length_tabulate (byte_of e) (started 8 (length e))) at q in
    get_d_tabulate (byte_of e) (started 8 (length e)) i 0 ix
    ∙ ap (λ x. bits_value x 0) (tabulate_ext (λ j. get_or e (8 * i + j) false) (λ j. odd (get_or l i 0 / 2 ^ (7 - j))) 8 (λ j z. each (8 * i + j) (omega arith) ∙ at_bit l i j z))
    ∙ byte_bits_value (get_or l i 0) (small i il))

-- ---- set bits of a byte, as `u8::count_ones` counts them
pub bits_value_snoc : (l : List Bool) (b : Bool) (acc : ℕ) → bits_value (l ++ b ∷ []) acc ≡ 2 * bits_value l acc + bit b
unfolding bits_value
bits_value_snoc [] b acc = refl
bits_value_snoc (x ∷ l) b acc = bits_value_snoc l b (2 * acc + bit x)

pub ones_snoc : (l : List Bool) (b : Bool) → ones (l ++ b ∷ []) ≡ ones l + bit b
ones_snoc l false = rw (ones_append l (false ∷ [])) (unfold ones in omega arith)
ones_snoc l true = rw (ones_append l (true ∷ [])) (unfold ones in omega arith)

pub count_bits_value : (f : ℕ → Bool) (n : ℕ) → Count.ones (bits_value (tabulate f n) 0) ≡ ones (tabulate f n)
unfolding tabulate
count_bits_value f zero = unfold bits_value ones Count.ones in refl
count_bits_value f (suc n) =
    let v : ℕ = bits_value (tabulate f n) 0 in
    let q : (2 * v + bit (f n)) / 2 ≡ v = omega (arith, bit_le (f n)) in
    let r : (2 * v + bit (f n)) % 2 ≡ bit (f n) = omega (arith, bit_le (f n)) in
    rw (bits_value_snoc (tabulate f n) (f n) 0, ones_snoc (tabulate f n) (f n), Count.ones_step (2 * v + bit (f n)), q, r, count_bits_value f n) (omega arith)
