-- Bytes are what their first b bits pack to exactly if their left-over bits are clear.
use mathlib.Core.Path.{◌≡◌, sym, ap, ◌∙◌}
use Prim.Native.Nat.{ℕ, suc, ◌+◌, ◌-◌, ◌*◌, ◌/◌, ◌%◌, ◌^◌, ◌≤◌, ◌<◌, min}
use mathlib.Core.Bool.{Bool, false}
use native.Mathlib.Omega.{arith}
use native.Mathlib.Nat.{mod-le}
use native.Mathlib.Decide.{dec_le}
use lib.ListN.{length, take, get_or, get_or-eq_default}
use lib.Seq.{ext_get_or, get_or-take, length-take-le}
use Rattle.loes.specs.Bytes.{Bytes, odd, tabulate, started, bit_at, bits_in, bits_value, byte_of, pack_bits}
use Rattle.loes.proofs.Bytes.{length_tabulate, get_d_tabulate, length_packed}
use Rattle.loes.proofs.Bits.{at_bit, tabulate_ext, length_bits_in}
use Rattle.loes.proofs.Numbers.{AllBytes, bytes_at}
use Rattle.bits.proofs.Part.{front_bits, front_byte}

-- the bits of byte i that are used
used : ℕ → ℕ → ℕ
used b i = min 8 (b - 8 * i)

used_whole : (b i : ℕ) → 8 * i + 8 ≤ b → used b i ≡ 8
unfolding used
used_whole b i h = omega arith

used_last : (b : ℕ) → used b (b / 8) ≡ b % 8
unfolding used
used_last b = omega arith

last_byte : (b i : ℕ) → i < started 8 b → b < 8 * i + 8 → (i ≡ b / 8) × (0 < b % 8)
unfolding started
last_byte b i h q = (omega arith, omega arith)

byte_of_lem : (l : Bytes) (b i : ℕ) → get_or l i 0 < 256 → byte_of (bits_in l b) i ≡ get_or l i 0 - get_or l i 0 % 2 ^ (8 - used b i)
unfolding byte_of used bits_in front_bits
byte_of_lem l b i h =
    let x : ℕ = get_or l i 0 in
    let k : ℕ = used b i in
    let f : ℕ → Bool = λ j. odd (x / 2 ^ (7 - j)) in
    ap (λ t. bits_value t 0) (tabulate_ext (λ j. get_or (bits_in l b) (8 * i + j) false) (λ j. get_or (front_bits x k) j false) 8 (λ j q.
    elim (dec_le (suc (8 * i + j)) b) [
      | yes y ↦
          get_d_tabulate (bit_at l) b (8 * i + j) false y ∙ at_bit l i j q ∙ sym (get_d_tabulate f k j false (omega arith))
      | no y ↦
          get_or-eq_default (bits_in l b) false {n = 8 * i + j} (omega (arith, length_bits_in l b))
          ∙ sym (get_or-eq_default (tabulate f k) false {n = j} (omega (arith, length_tabulate f k)))
    ]))
    ∙ front_byte x k h (omega arith)

module _ (l : Bytes) (b : ℕ) (ok : AllBytes l) (room : started 8 b ≤ length l) where
  packed_at : (i : ℕ) → i < started 8 b → get_or (pack_bits (bits_in l b)) i 0 ≡ get_or l i 0 - get_or l i 0 % 2 ^ (8 - used b i)
  unfolding pack_bits
  packed_at i h =
      let n : i < started 8 (length (bits_in l b)) = rw (length_bits_in l b) h in
      get_d_tabulate (byte_of (bits_in l b)) (started 8 (length (bits_in l b))) i 0 n ∙ byte_of_lem l b i (bytes_at l i ok (omega arith))

  pub packs : (0 < b % 8 → get_or l (b / 8) 0 % 2 ^ (8 - b % 8) ≡ 0) → pack_bits (bits_in l b) ≡ take (started 8 b) l
  packs clear =
      let n : length (pack_bits (bits_in l b)) ≡ started 8 b = length_packed (bits_in l b) ∙ ap (started 8) (length_bits_in l b) in
      ext_get_or 0 (pack_bits (bits_in l b)) (take (started 8 b) l) (n ∙ sym (length-take-le (started 8 b) l room)) (λ i h.
      let q : i < started 8 b = rw n at h in
      packed_at i q ∙ whole i q ∙ sym (get_or-take (started 8 b) l i 0 q))
    where
      whole : (i : ℕ) → i < started 8 b → get_or l i 0 - get_or l i 0 % 2 ^ (8 - used b i) ≡ get_or l i 0
      whole i q =
          elim (dec_le (8 * i + 8) b) [
            | yes y ↦ rw (used_whole b i y) (omega arith)
            | no y ↦ let v = last_byte b i q (omega arith) in rw (v.0, used_last b) (omega (arith, clear v.1))
          ]

  pub packs_clear : pack_bits (bits_in l b) ≡ take (started 8 b) l → 0 < b % 8 → get_or l (b / 8) 0 % 2 ^ (8 - b % 8) ≡ 0
  packs_clear e p =
      let q : b / 8 < started 8 b = unfold started in omega arith in
      let a : get_or l (b / 8) 0 - get_or l (b / 8) 0 % 2 ^ (8 - b % 8) ≡ get_or l (b / 8) 0 =
      sym (rw (used_last b) at (packed_at (b / 8) q)) ∙ ap (λ t. get_or t (b / 8) 0) e ∙ get_or-take (started 8 b) l (b / 8) 0 q in
      omega (arith, a, mod-le (get_or l (b / 8) 0) (2 ^ (8 - b % 8)))
