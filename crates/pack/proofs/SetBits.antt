-- Setting bits in bytes
use mathlib.Core.Path.{◌≡◌, refl, sym, ap, ◌∙◌}
use Prim.Native.Nat.{ℕ, zero, suc, ◌+◌, ◌-◌, ◌*◌, ◌/◌, ◌%◌, ◌^◌, ◌≤◌, ◌<◌}
use native.Mathlib.Nat.{pow-suc}
use mathlib.Core.Bool.{Bool, true, false, cond}
use mathlib.Core.List.{List}
use native.Mathlib.Omega.{arith}
use native.Mathlib.Decide.{dec_le, ℕ_discrete}
use mir.Val.{bool_byte}
use lib.ListN.{length, get_or, set, length-set}
use lib.Pow.{pow-add}
use lib.Bits.{bit_and, bit_or, or_add_and, and_high}
use lib.Seq.{ext_get_or, get_or-set_same, get_or-set_other, set-get_or, set-set}
use lib.Dec.{leb}
use borrow.Author.Tests.{lt-leb}
use Rattle.loes.specs.Bytes.{Bytes, bit, odd, bit_at, tabulate, bits_value, byte_of, pack_bits, started}
use Rattle.loes.proofs.Bytes.{get_d_tabulate, length_packed}
use Rattle.loes.proofs.Bits.{tabulate_ext, at_packed, bit_odd, bits_value_snoc}
use Rattle.pack.specs.Marking.{set_bit, set_bits, second_edges, offset_of}

-- one bit more
value_set : (f g : ℕ → Bool) (n j : ℕ) → j < n → f j ≡ false → g j ≡ true → ((x : ℕ) → x < n → (x ≡ j → ⊥) → g x ≡ f x)
    → bits_value (tabulate g n) 0 ≡ bits_value (tabulate f n) 0 + 2 ^ (n - 1 - j)
unfolding tabulate
value_set f g zero j h a b other = absurd (omega arith)
value_set f g (suc n) j h a b other =
    rw (bits_value_snoc (tabulate g n) (g n) 0, bits_value_snoc (tabulate f n) (f n) 0)
    (elim (dec_le (suc j) n) [
      | yes y ↦
          let p : suc n - 1 - j ≡ suc (n - 1 - j) = omega arith in
          let same : g n ≡ f n = other n (omega arith) (λ q. omega arith) in
          let w : 2 ^ suc (n - 1 - j) ≡ 2 ^ (n - 1 - j) * 2 = pow-suc 2 (n - 1 - j) in
          let ih : bits_value (tabulate g n) 0 ≡ bits_value (tabulate f n) 0 + 2 ^ (n - 1 - j) = value_set f g n j y a b (λ x l d. other x (omega arith) d) in
          rw (p, same, w) (omega arith)
      | no y ↦
          let q : j ≡ n = omega arith in
          let p : suc n - 1 - j ≡ 0 = omega arith in
          let gn : g n ≡ true = rw q at b in
          let fn : f n ≡ false = rw q at a in
          let t : tabulate g n ≡ tabulate f n = tabulate_ext g f n (λ x l. other x (omega arith) (λ d. omega arith)) in
          rw (p, gn, fn, t) (omega arith)
    ])

byte_same : (e : List Bool) (o i : ℕ) → (i ≡ o / 8 → ⊥) → byte_of (set e o true) i ≡ byte_of e i
unfolding byte_of
byte_same e o i d =
    ap (λ (t : List Bool). bits_value t 0)
    (tabulate_ext (λ j. get_or (set e o true) (8 * i + j) false) (λ j. get_or e (8 * i + j) false) 8
    (λ j h. get_or-set_other e o (8 * i + j) true false (λ q. d (omega arith))))

byte_set : (e : List Bool) (o : ℕ) → o < length e → get_or e o false ≡ false → byte_of (set e o true) (o / 8) ≡ byte_of e (o / 8) + 2 ^ (7 - o % 8)
unfolding byte_of
byte_set e o h clear =
    let z : 8 * (o / 8) + o % 8 ≡ o = omega arith in
    let f : ℕ → Bool = λ j. get_or e (8 * (o / 8) + j) false in
    let g : ℕ → Bool = λ j. get_or (set e o true) (8 * (o / 8) + j) false in
    let a : f (o % 8) ≡ false = rw z clear in
    let b : g (o % 8) ≡ true = rw z (get_or-set_same e o true false h) in
    value_set f g 8 (o % 8) (omega arith) a b (λ x l d. get_or-set_other e o (8 * (o / 8) + x) true false (λ q. d (omega arith)))

pub at_byte : (e : List Bool) (i : ℕ) → i < started 8 (length e) → get_or (pack_bits e) i 0 ≡ byte_of e i
unfolding pack_bits
at_byte e i h = get_d_tabulate (byte_of e) (started 8 (length e)) i 0 h

packed_empty : (e : List Bool) (o : ℕ) → o < length e → get_or e o false ≡ false
    → set (pack_bits e) (o / 8) (get_or (pack_bits e) (o / 8) 0 + 2 ^ (7 - o % 8)) ≡ pack_bits (set e o true)
packed_empty e o h q =
    let v : ℕ = get_or (pack_bits e) (o / 8) 0 + 2 ^ (7 - o % 8) in
    let sl : length (set e o true) ≡ length e = length-set e o true in
    let q8 : o / 8 < started 8 (length e) = unfold started in omega arith in
    let len : length (set (pack_bits e) (o / 8) v) ≡ length (pack_bits (set e o true)) =
    length-set (pack_bits e) (o / 8) v ∙ length_packed e ∙ sym (length_packed (set e o true) ∙ ap (started 8) sl) in
    ext_get_or 0 (set (pack_bits e) (o / 8) v) (pack_bits (set e o true)) len (λ i l.
    let i8 : i < started 8 (length e) = rw (length-set (pack_bits e) (o / 8) v, length_packed e) at l in
    let i9 : i < started 8 (length (set e o true)) = rw sl i8 in
    elim (ℕ_discrete i (o / 8)) [
      | yes y ↦
          rw (at_byte (set e o true) i i9, y, byte_set e o h q, ← at_byte e (o / 8) q8) (get_or-set_same (pack_bits e) (o / 8) v 0 (rw (length_packed e) q8))
      | no y ↦
          rw (at_byte (set e o true) i i9, byte_same e o i y, ← at_byte e i i8) (get_or-set_other (pack_bits e) (o / 8) i v 0 y)
    ])

-- setting a bit of packed bits
pub packed_set : (e : List Bool) (o : ℕ) → o < length e → set_bit (pack_bits e) o ≡ pack_bits (set e o true)
unfolding set_bit
packed_set e o h = rw (at_packed e o h) (go (get_or e o false) refl)
  where
    go : (b : Bool) → get_or e o false ≡ b → cond b (pack_bits e) (set (pack_bits e) (o / 8) (get_or (pack_bits e) (o / 8) 0 + 2 ^ (7 - o % 8))) ≡ pack_bits (set e o true)
    go true q = ap pack_bits (sym (ap (set e o) (sym q) ∙ set-get_or e o false))
    go false q = packed_empty e o h q

-- ---- the code's way to set it
and_bit : (x k : ℕ) → bit_and x (2 ^ k) ≡ x / 2 ^ k % 2 * 2 ^ k
and_bit x k = let z : 2 ^ (1 + k) - 2 ^ k ≡ 2 ^ k = rw (pow-add 2 1 k) (omega arith) in rw z at (and_high x 1 k)

pub set_or : (l : List ℕ) (o : ℕ) → set l (o / 8) (bit_or (get_or l (o / 8) 0) (2 ^ (7 - o % 8))) ≡ set_bit l o
unfolding set_bit bit_at
set_or l o =
    let x : ℕ = get_or l (o / 8) 0 in
    let k : ℕ = 7 - o % 8 in
    let a : x / 2 ^ k % 2 ≡ bit (odd (x / 2 ^ k)) = sym (bit_odd (x / 2 ^ k)) in
    let b : bit_and x (2 ^ k) ≡ bit (odd (x / 2 ^ k)) * 2 ^ k = rw a at (and_bit x k) in
    go (odd (x / 2 ^ k)) x k b (or_add_and x (2 ^ k)) refl
  where
    go : (c : Bool) (x k : ℕ) → bit_and x (2 ^ k) ≡ bit c * 2 ^ k → bit_or x (2 ^ k) + bit_and x (2 ^ k) ≡ x + 2 ^ k → x ≡ get_or l (o / 8) 0
        → set l (o / 8) (bit_or x (2 ^ k)) ≡ cond c l (set l (o / 8) (x + 2 ^ k))
    go true x k b e q = let z : bit_or x (2 ^ k) ≡ x = omega arith in rw (z, q) (set-get_or l (o / 8) 0)
    go false x k b e q = let z : bit_or x (2 ^ k) ≡ x + 2 ^ k = omega arith in rw z

-- one turn of the loop over the levels
pub bits_more : (o : ℕ → ℕ) (from e : ℕ) (l cur new : List ℕ) → from ≤ e → cur ≡ set_bits o from (e - from) l → new ≡ set_bit cur (o e)
    → new ≡ set_bits o from (e + 1 - from) l
unfolding set_bits
bits_more o from e l cur new h c n =
    let z : e + 1 - from ≡ suc (e - from) = omega arith in
    let w : from + (e - from) ≡ e = omega arith in
    rw (z, w, ← c) n

pub bits_past : (o : ℕ → ℕ) (from n : ℕ) (l : List ℕ) → n ≤ from → l ≡ set_bits o from (n - from) l
unfolding set_bits
bits_past o from n l h = let z : n - from ≡ 0 = omega arith in rw z

-- bits set one after another
pub bits_join : (o : ℕ → ℕ) (from a b : ℕ) (l : List ℕ) → set_bits o (from + a) b (set_bits o from a l) ≡ set_bits o from (a + b) l
unfolding set_bits
bits_join o from a zero l = let z : a + 0 ≡ a = omega arith in rw z
bits_join o from a (suc b) l =
    let z : a + suc b ≡ suc (a + b) = omega arith in
    let w : from + a + b ≡ from + (a + b) = omega arith in
    rw (bits_join o from a b l, z, w)

-- b edges more behind the first a
pub more : (o : ℕ → ℕ) (a b : ℕ) (l cur new : List ℕ) → cur ≡ set_bits o 0 a l → new ≡ set_bits o a b cur → new ≡ set_bits o 0 (a + b) l
more o a b l cur new e q = q ∙ ap (set_bits o a b) e ∙ let z : 0 + a ≡ a = omega arith in rw z at (bits_join o 0 a b l)

pub bits_all : (o : ℕ → ℕ) (new m : ℕ) (l cur : List ℕ) → new ≤ m → cur ≡ set_bits o (new - 1) (new - (new - 1)) l → set_bits o new (m - new) cur ≡ set_bits o (new - 1) (m - (new - 1)) l
bits_all o new m l cur h e =
    let z : new - 1 + (new - (new - 1)) ≡ new = omega arith in
    let w : new - (new - 1) + (m - new) ≡ m - (new - 1) = omega arith in
    ap (set_bits o new (m - new)) e ∙ rw (z, w) at (bits_join o (new - 1) (new - (new - 1)) (m - new) l)

pub bits_one : (o : ℕ → ℕ) (from : ℕ) (l : List ℕ) → set_bits o from 1 l ≡ set_bit l (o from)
unfolding set_bits
bits_one o from l = let z : from + 0 ≡ from = omega arith in rw z

-- four of one byte
module _ (at : ℕ) (l : List ℕ) (h : at < length l) where
  bit_first : (o v : ℕ) → o / 8 ≡ at → v ≡ 2 ^ (7 - o % 8) → set_bit l o ≡ set l at (bit_or (get_or l at 0) v)
  bit_first o v e d = rw (d, ← e) (sym (set_or l o))

  bit_next : (o v x : ℕ) → o / 8 ≡ at → v ≡ 2 ^ (7 - o % 8) → set_bit (set l at x) o ≡ set l at (bit_or x v)
  bit_next o v x e d =
      rw (d, ← set_or (set l at x) o, e) (ap (λ y. set (set l at x) at (bit_or y (2 ^ (7 - o % 8)))) (get_or-set_same l at x 0 h) ∙ set-set l at x (bit_or x (2 ^ (7 - o % 8))))

  pub bits_four : (o : ℕ → ℕ) (from a b c d : ℕ) → ((j : ℕ) → j < 4 → o (from + j) / 8 ≡ at)
      → a ≡ 2 ^ (7 - o (from + 0) % 8) → b ≡ 2 ^ (7 - o (from + 1) % 8) → c ≡ 2 ^ (7 - o (from + 2) % 8) → d ≡ 2 ^ (7 - o (from + 3) % 8)
      → set l at (bit_or (bit_or (bit_or (bit_or (get_or l at 0) a) b) c) d) ≡ set_bits o from 4 l
  unfolding set_bits
  bits_four o from a b c d e p q r s =
      let x : ℕ = bit_or (get_or l at 0) a in
      sym
      (rw (
        bit_first (o (from + 0)) a (e 0 (omega arith)) p,
        bit_next (o (from + 1)) b x (e 1 (omega arith)) q,
        bit_next (o (from + 2)) c (bit_or x b) (e 2 (omega arith)) r,
        bit_next (o (from + 3)) d (bit_or (bit_or x b) c) (e 3 (omega arith)) s,
      ))

-- the same bits
pub bits_ext : (o p : ℕ → ℕ) (from n : ℕ) (l : List ℕ) → ((j : ℕ) → j < n → o (from + j) ≡ p (from + j)) → set_bits o from n l ≡ set_bits p from n l
unfolding set_bits
bits_ext o p from zero l h = refl
bits_ext o p from (suc n) l h = rw (bits_ext o p from n l (λ j x. h j (omega arith)), h n (omega arith))

-- the bit above the first new level
pub above_is : (cursors : List ℕ) (new : ℕ) (key edges : Bytes) → (0 < new → (0 < get_or cursors (new - 1) 0) × (bit_at key (new - 1) ≡ true))
    → set_bits (second_edges cursors) (new - 1) (new - (new - 1)) edges ≡ set_bits (offset_of cursors new key) (new - 1) (new - (new - 1)) edges
unfolding second_edges offset_of
above_is cursors new key edges h =
    bits_ext (second_edges cursors) (offset_of cursors new key) (new - 1) (new - (new - 1)) edges (λ j x.
    let z : new - 1 + j ≡ new - 1 = omega arith in
    let p = h (omega arith) in
    let q : leb new (new - 1) ≡ false = lt-leb new (new - 1) (omega arith) in
    rw (z, p.1, q) (omega (arith, p.0)))

-- ---- a truth value as a number
pub byte_bit : (b : Bool) → bool_byte b ≡ bit b
byte_bit true = refl
byte_bit false = refl
