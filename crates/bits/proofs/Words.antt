-- Bytes as one word: its set bits, and whether it has an empty record.
use mathlib.Core.Path.{◌≡◌, refl, sym, ap, ap₂, ◌∙◌}
use Prim.Native.Nat.{ℕ, zero, suc, ◌+◌, ◌-◌, ◌*◌, ◌/◌, ◌%◌, ◌^◌, ◌≤◌, ◌<◌}
use mathlib.Core.Bool.{true, ◌&&◌}
use native.Mathlib.Omega.{arith}
use native.Mathlib.Nat.{mul_assoc, mul-le-mul_right, mod-eq_of_lt}
use lib.ListN.{drop, get_or}
use lib.Seq.{get_or-drop, drop-drop}
use lib.Pow.{pow_pos, pow-add, shl_exact, shr-shr, split}
use lib.Bits.{bit_and, bit_or, and_le_l, and_le_r, and_mod, or_lt, or_shifted_r, or_shr, or_mod, and_block}
use lib.Count
use lib.Dec.{eqb}
use Rattle.loes.specs.Bytes.{Bytes, odd, tabulate, bits_in}
use Rattle.loes.specs.Edges.{ones}
use Rattle.loes.proofs.Lists.{ones_append}
use Rattle.loes.proofs.Tests.{both, yes_eq}
use Rattle.bits.specs.Tables.{bits8, none_empty}
use Rattle.bits.specs.Words.{word_in, mask, Scanned}
use Rattle.bits.proofs.Table.{pointwise}
use Rattle.bits.proofs.Counts.{byte_more, count_byte, ones_more, ones_bits_le}
use Rattle.bits.proofs.Records.{full_more}

-- every element is a byte
abbrev pub Small : Bytes → Type 0
Small l = (i : ℕ) → get_or l i 0 < 256

pub word_lt : (l : Bytes) (n : ℕ) → Small l → word_in l n < 2 ^ (8 * n)
unfolding word_in
word_lt l zero s = omega arith
word_lt l (suc n) s =
    let z : 8 * suc n ≡ 8 + 8 * n = omega arith in
    let p : 2 ^ (8 * suc n) ≡ 2 ^ 8 * 2 ^ (8 * n) = ap (λ k. 2 ^ k) z ∙ pow-add 2 8 (8 * n) in
    let q : get_or l n 0 * 2 ^ (8 * n) ≤ 255 * 2 ^ (8 * n) = mul-le-mul_right (2 ^ (8 * n)) (omega (arith, s n)) in
    omega (arith, p, q, word_lt l n s)

-- one byte more
or_more : (l : Bytes) (n : ℕ) → n < 8 → Small l → bit_or (word_in l n) (get_or l n 0 * 2 ^ (8 * n) % 2 ^ 64) ≡ word_in l (suc n)
unfolding word_in
or_more l n h s =
    ap (bit_or (word_in l n)) (shl_exact 8 (8 * n) 64 (s n) (omega arith)) ∙ or_shifted_r (get_or l n 0) (8 * n) (word_in l n) (word_lt l n s)

-- the set bits
pub word_ones : (l : Bytes) (n : ℕ) → Small l → Count.ones (word_in l n) ≡ ones (bits_in l (8 * n))
unfolding word_in
word_ones l zero s = unfold bits_in tabulate ones Count.ones Count.ones_in in refl
word_ones l (suc n) s =
    Count.ones_cat (8 * n) (get_or l n 0) (word_in l n) (word_lt l n s)
    ∙ omega (arith, word_ones l n s, count_byte (get_or l n 0) (s n), ap ones (byte_more l n) ∙ ones_append (bits_in l (8 * n)) (bits8 (get_or l n 0)))

pub word_ones_le : (l : Bytes) (n : ℕ) → Small l → Count.ones (word_in l n) ≤ 8 * n
word_ones_le l n s = omega (arith, word_ones l n s, ones_bits_le l (8 * n))

-- the word that the code makes of the bytes from a place on
module _ (l : Bytes) (at : ℕ) (s : Small l) where
  pub small_from : Small (drop at l)
  small_from i = rw (get_or-drop at l i 0) (s (at + i))

  pub word_first : get_or l at 0 ≡ word_in (drop at l) 1
  unfolding word_in
  word_first =
      let z : at + 0 ≡ at = omega arith in
      let g : get_or (drop at l) 0 0 ≡ get_or l at 0 = get_or-drop at l 0 0 ∙ ap (λ i. get_or l i 0) z in
      omega (arith, g)

  pub word_next : (n : ℕ) {r : ℕ} → n < 8 → r ≡ word_in (drop at l) n → bit_or r (get_or l (at + n) 0 * 2 ^ (8 * n) % 2 ^ 64) ≡ word_in (drop at l) (suc n)
  word_next n h e = ap₂ (λ a b. bit_or a (b * 2 ^ (8 * n) % 2 ^ 64)) e (sym (get_or-drop at l n 0)) ∙ or_more (drop at l) n h small_from

-- ---- Empty records: each has one of the bits of the mask
-- what is left of the mask by x and by x moved by one
unfoldable pub kept : ℕ → ℕ → ℕ
kept n x = bit_and (mask n) (bit_or x (x / 2))

-- the rule of one byte and of the bit above it, computed over all of them
unfoldable byte_kept : ℕ → ℕ
byte_kept v = bit_and 85 (bit_or (v % 256) (v / 2))

kept_rule : (v : ℕ) → v < 512 → eqb (byte_kept v) 85 ≡ none_empty (bits8 (v % 256))
unfolding byte_kept tabulate odd bits8 none_empty
kept_rule = pointwise true (λ v. eqb (byte_kept v) 85) (λ v. none_empty (bits8 (v % 256))) 512 refl

-- the lowest byte, and the others
kept_byte : (n x : ℕ) → kept (suc n) x ≡ kept n (x / 256) * 256 + byte_kept (x % 512)
unfolding kept mask byte_kept
kept_byte n x =
    let y : ℕ = bit_or x (x / 2) in
    let h : y / 256 ≡ bit_or (x / 256) (x / 256 / 2) = or_shr x (x / 2) 8 ∙ ap (bit_or (x / 256)) (omega arith) in
    let a : x % 256 ≡ x % 512 % 256 = omega arith in
    let b : x / 2 % 256 ≡ x % 512 / 2 = omega arith in
    let r : y % 256 ≡ bit_or (x % 512 % 256) (x % 512 / 2) = or_mod x (x / 2) 8 ∙ ap₂ bit_or a b in
    ap (bit_and (mask n * 256 + 85)) (sym (split y 8)) ∙ and_block 8 (mask n) (y / 256) 85 (y % 256) (omega arith) (omega arith)
    ∙ ap₂ (λ p q. bit_and (mask n) p * 256 + bit_and 85 q) h r

byte_kept_le : (v : ℕ) → byte_kept v ≤ 85
unfolding byte_kept
byte_kept_le v = and_le_l 85 (bit_or (v % 256) (v / 2))

-- the first byte of a word is its lowest
pub word_cons : (l : Bytes) (n : ℕ) → word_in l (suc n) ≡ word_in (drop 1 l) n * 256 + get_or l 0 0
unfolding word_in
word_cons l zero = omega arith
word_cons l (suc n) =
    let w : ℕ = get_or l (1 + n) 0 in
    let z : 8 * suc n ≡ 8 * n + 8 = omega arith in
    let p : w * 2 ^ (8 * suc n) ≡ w * 2 ^ (8 * n) * 256 = ap (λ k. w * 2 ^ k) z ∙ ap (λ k. w * k) (pow-add 2 (8 * n) 8) ∙ sym (mul_assoc w (2 ^ (8 * n)) 256) in
    let g : get_or (drop 1 l) n 0 * 2 ^ (8 * n) ≡ w * 2 ^ (8 * n) = ap (λ k. k * 2 ^ (8 * n)) (get_or-drop 1 l n 0) in
    let q : get_or l (suc n) 0 ≡ w = ap (λ k. get_or l k 0) (omega arith) in
    let t : get_or l (suc n) 0 * 2 ^ (8 * suc n) ≡ w * 2 ^ (8 * suc n) = ap (λ k. k * 2 ^ (8 * suc n)) q in
    omega (arith, p, g, t, word_cons l n)

-- the first j bytes shifted out
pub word_rest : (l : Bytes) (j k : ℕ) → Small l → word_in l (j + k) / 2 ^ (8 * j) ≡ word_in (drop j l) k
word_rest l zero k s =
    let z : 0 + k ≡ k = omega arith in
    let q : word_in l k / 1 ≡ word_in l k = omega arith in
    ap (λ n. word_in l n / 1) z ∙ q
word_rest l (suc j) k s =
    let z : suc j + k ≡ suc (j + k) = omega arith in
    let y : 8 * suc j ≡ 8 + 8 * j = omega arith in
    let d : 1 + j ≡ suc j = omega arith in
    let f : word_in l (suc j + k) / 256 ≡ word_in (drop 1 l) (j + k) = ap (λ n. word_in l n / 256) z ∙ omega (arith, word_cons l (j + k), s 0) in
    ap (λ n. word_in l (suc j + k) / 2 ^ n) y ∙ sym (shr-shr (word_in l (suc j + k)) 8 (8 * j)) ∙ ap (λ x. x / 2 ^ (8 * j)) f
    ∙ word_rest (drop 1 l) j k (small_from l 1 s) ∙ ap (λ x. word_in x k) (drop-drop j 1 l ∙ ap (λ n. drop n l) d)

-- byte n of a word
pub word_byte : (l : Bytes) (n : ℕ) → n < 8 → Small l → word_in l 8 / 2 ^ (8 * n) % 256 ≡ get_or l n 0
word_byte l n h s =
    let z : 8 ≡ n + suc (7 - n) = omega arith in
    let y : n + 0 ≡ n = omega arith in
    let r : word_in l 8 / 2 ^ (8 * n) ≡ word_in (drop n l) (suc (7 - n)) = ap (λ m. word_in l m / 2 ^ (8 * n)) z ∙ word_rest l n (suc (7 - n)) s in
    let g : get_or (drop n l) 0 0 ≡ get_or l n 0 = get_or-drop n l 0 0 ∙ ap (λ m. get_or l m 0) y in
    omega (arith, r, word_cons (drop n l) (7 - n), g, s n)

bits_first : (l : Bytes) (n : ℕ) → none_empty (bits_in l (8 * suc n)) ≡ (none_empty (bits8 (get_or l 0 0)) && none_empty (bits_in (drop 1 l) (8 * n)))
bits_first l n =
    let z : 8 * suc n ≡ 8 * 1 + 8 * n = omega arith in
    let e : bits_in l (8 * 1) ≡ bits8 (get_or l 0 0) = byte_more l 0 ∙ (unfold bits_in tabulate in refl) in
    ap (λ k. none_empty (bits_in l k)) z ∙ full_more l 1 (8 * n) ∙ ap (λ k. none_empty k && none_empty (bits_in (drop 1 l) (8 * n))) e

-- no record of the n bytes of a word is empty, exactly if all of the mask is left
module _ (l : Bytes) (n : ℕ) (s : Small l) where
  lowest : word_in l (suc n) % 512 % 256 ≡ get_or l 0 0
  lowest = omega (arith, word_cons l n, s 0)

  rest : word_in l (suc n) / 256 ≡ word_in (drop 1 l) n
  rest = omega (arith, word_cons l n, s 0)

  low_rule : eqb (byte_kept (word_in l (suc n) % 512)) 85 ≡ none_empty (bits8 (get_or l 0 0))
  low_rule = kept_rule (word_in l (suc n) % 512) (omega arith) ∙ ap (λ k. none_empty (bits8 k)) lowest

  kept_cons : kept (suc n) (word_in l (suc n)) ≡ kept n (word_in (drop 1 l) n) * 256 + byte_kept (word_in l (suc n) % 512)
  kept_cons = kept_byte n (word_in l (suc n)) ∙ ap (λ k. kept n k * 256 + byte_kept (word_in l (suc n) % 512)) rest

pub kept_full : (l : Bytes) (n : ℕ) → Small l → kept n (word_in l n) ≡ mask n → none_empty (bits_in l (8 * n)) ≡ true
unfolding mask
kept_full l zero s e = unfold bits_in tabulate none_empty in refl
kept_full l (suc n) s e =
    let b : byte_kept (word_in l (suc n) % 512) ≡ 85 = omega (arith, e, kept_cons l n s, byte_kept_le (word_in l (suc n) % 512)) in
    let k : kept n (word_in (drop 1 l) n) ≡ mask n = omega (arith, e, kept_cons l n s, byte_kept_le (word_in l (suc n) % 512)) in
    bits_first l n ∙ ap₂ ◌&&◌ (sym (low_rule l n s) ∙ ap (λ v. eqb v 85) b) (kept_full (drop 1 l) n (small_from l 1 s) k)

pub full_kept : (l : Bytes) (n : ℕ) → Small l → none_empty (bits_in l (8 * n)) ≡ true → kept n (word_in l n) ≡ mask n
unfolding mask
full_kept l zero s e = unfold kept word_in in refl
full_kept l (suc n) s e =
    let r = both (none_empty (bits8 (get_or l 0 0))) (none_empty (bits_in (drop 1 l) (8 * n))) (sym (bits_first l n) ∙ e) in
    let b : byte_kept (word_in l (suc n) % 512) ≡ 85 = yes_eq (byte_kept (word_in l (suc n) % 512)) 85 (low_rule l n s ∙ r.0) in
    omega (arith, b, kept_cons l n s, full_kept (drop 1 l) n (small_from l 1 s) r.1)

-- ---- Word by word
pub word_more : (l : Bytes) (i k : ℕ) → Small l → ones (bits_in l (8 * (i + k))) ≡ ones (bits_in l (8 * i)) + Count.ones (word_in (drop i l) k)
word_more l i k s =
    let z : 8 * (i + k) ≡ 8 * i + 8 * k = omega arith in
    omega (arith, word_ones (drop i l) k (small_from l i s), ap (λ m. ones (bits_in l m)) z, ones_more l i (8 * k))

full_parts : (l : Bytes) (i k : ℕ) → none_empty (bits_in l (8 * (i + k))) ≡ (none_empty (bits_in l (8 * i)) && none_empty (bits_in (drop i l) (8 * k)))
full_parts l i k =
    let z : 8 * (i + k) ≡ 8 * i + 8 * k = omega arith in
    ap (λ m. none_empty (bits_in l m)) z ∙ full_more l i (8 * k)

both_parts : (l : Bytes) (i k : ℕ) → none_empty (bits_in l (8 * (i + k))) ≡ true
    → (none_empty (bits_in l (8 * i)) ≡ true) × (none_empty (bits_in (drop i l) (8 * k)) ≡ true)
both_parts l i k e = both (none_empty (bits_in l (8 * i))) (none_empty (bits_in (drop i l) (8 * k))) (sym (full_parts l i k) ∙ e)

pub scan_start : (l : Bytes) → Scanned l 0 (mask 8) 0
scan_start l =
    record {
      count = unfold bits_in tabulate ones in refl;
      within = omega arith;
      good = λ e. unfold bits_in tabulate none_empty in refl;
      bad = λ e. refl;
    }

pub scan_next : (l : Bytes) (i full n : ℕ) → Small l → Scanned l i full n → let x = word_in (drop i l) 8 in
    Scanned l (i + 8) (bit_and full (bit_or x (x / 2))) (n + Count.ones x)
unfolding kept
scan_next l i full n s p =
    let y : Bytes = drop i l in
    let x : ℕ = word_in y 8 in
    let v : ℕ = bit_or x (x / 2) in
    let sy : Small y = small_from l i s in
    record {
      count = omega (arith, p.count, word_more l i 8 s);
      within = omega (arith, and_le_l full v, p.within);
      good = λ e.
          let q : full ≡ mask 8 = omega (arith, e, and_le_l full v, p.within) in
          full_parts l i 8 ∙ ap₂ ◌&&◌ (p.good q) (kept_full y 8 sy (ap (λ k. bit_and k v) (sym q) ∙ e));
      bad = λ e. let r = both_parts l i 8 e in ap (λ k. bit_and k v) (p.bad r.0) ∙ full_kept y 8 sy r.1;
    }

-- ---- Fewer than eight bytes: the mask of a word is that of its bytes
part_mask : (k : ℕ) → k < 8 → mask 8 % 2 ^ (8 * k) ≡ mask k
unfolding mask tabulate
part_mask = pointwise 0 (λ k. mask 8 % 2 ^ (8 * k)) mask 8 refl

-- as the code takes it
unit_is : (k : ℕ) → k < 8 → 1 * 2 ^ (8 * k) % 2 ^ 64 ≡ 2 ^ (8 * k)
unit_is k h = shl_exact 1 (8 * k) 64 (omega arith) (omega arith) ∙ omega arith

pub unit_pos : (k : ℕ) → k < 8 → 0 < 1 * 2 ^ (8 * k) % 2 ^ 64
unit_pos k h = rw (unit_is k h) (pow_pos (8 * k))

mask_shown : (k : ℕ) → k < 8 → mask 8 % (1 * 2 ^ (8 * k) % 2 ^ 64) ≡ mask k
mask_shown k h = ap (λ m. mask 8 % m) (unit_is k h) ∙ part_mask k h

part_kept : (l : Bytes) (k : ℕ) → k < 8 → Small l → let x = word_in l k in bit_and (mask 8) (bit_or x (x / 2)) ≡ kept k x
unfolding kept
part_kept l k h s =
    let x : ℕ = word_in l k in
    let v : ℕ = bit_or x (x / 2) in
    let m : ℕ = 2 ^ (8 * k) in
    let b : v < m = or_lt (8 * k) x (x / 2) (word_lt l k s) (omega (arith, word_lt l k s)) in
    let c : bit_and (mask 8) v < m = omega (arith, b, and_le_r (mask 8) v) in
    sym (mod-eq_of_lt c) ∙ and_mod (mask 8) v (8 * k) ∙ ap₂ bit_and (part_mask k h) (mod-eq_of_lt b)

module _ (l : Bytes) (i full n k : ℕ) (h : k < 8) (s : Small l) (p : Scanned l i full n) where
  abbrev part : ℕ
  part = word_in (drop i l) k

  pub part_count : n + Count.ones part ≡ ones (bits_in l (8 * (i + k)))
  part_count = omega (arith, p.count, word_more l i k s)

  pub part_full : full ≡ mask 8 → bit_and (mask 8) (bit_or part (part / 2)) ≡ mask 8 % (1 * 2 ^ (8 * k) % 2 ^ 64) → none_empty (bits_in l (8 * (i + k))) ≡ true
  part_full q e =
      let sy : Small (drop i l) = small_from l i s in
      full_parts l i k ∙ ap₂ ◌&&◌ (p.good q) (kept_full (drop i l) k sy (sym (part_kept (drop i l) k h sy) ∙ e ∙ mask_shown k h))

  pub full_part : none_empty (bits_in l (8 * (i + k))) ≡ true → bit_and (mask 8) (bit_or part (part / 2)) ≡ mask 8 % (1 * 2 ^ (8 * k) % 2 ^ 64)
  full_part e =
      let sy : Small (drop i l) = small_from l i s in
      part_kept (drop i l) k h sy ∙ full_kept (drop i l) k sy (both_parts l i k e).1 ∙ sym (mask_shown k h)

pub full_front : (l : Bytes) (i full n k : ℕ) → Scanned l i full n → none_empty (bits_in l (8 * (i + k))) ≡ true → full ≡ mask 8
full_front l i full n k p e = p.bad (both_parts l i k e).0
