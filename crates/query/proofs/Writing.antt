-- The key of a path, byte by byte
use mathlib.Core.Path.{◌≡◌, refl, sym, ap, ◌∙◌}
use Prim.Native.Nat.{ℕ, zero, suc, ◌+◌, ◌-◌, ◌*◌, ◌/◌, ◌%◌, ◌^◌, ◌≤◌, ◌<◌}
use mathlib.Core.Bool.{Bool, false}
use mathlib.Core.List.{List, [], ◌∷◌, ◌++◌, append_assoc}
use Rattle.std.proofs.Math.Nat.{mul_left_comm, pow-succ'}
use native.Mathlib.Omega.{arith}
use native.Mathlib.Decide.{le_ind}
use lib.ListN.{length, take, drop, get_or, set, get_or-eq_default, length-drop}
use lib.Seq.{length-take-le, get_or-take, get_or-drop, drop-cons, set-append_seam}
use Rattle.loes.specs.Bytes.{bit, odd, tabulate, bits_value, byte_of, pack_bits, started, front}
use Rattle.loes.specs.Keys.{Key}
use Rattle.loes.specs.Cursor.{key_of, key_of_path}
use Rattle.loes.proofs.Bits.{bits_value_snoc, bit_odd, bits_value_lt, tabulate_ext}
use Rattle.loes.proofs.Bytes.{length_tabulate, get_d_tabulate}
use Rattle.query.proofs.Paths.{key_length}

-- ---- The low bits of offsets as one number
pub path_none : (os : List ℕ) → ◌≡◌ {A = ℕ} 0 (bits_value (key_of_path os 0) 0)
unfolding key_of_path key_of tabulate bits_value
path_none os = refl

pub path_more : (os : List ℕ) (n v : ℕ) → v ≡ bits_value (key_of_path os n) 0 → 2 * v + get_or os n 0 % 2 ≡ bits_value (key_of_path os (n + 1)) 0
unfolding key_of_path key_of tabulate
path_more os n v h =
    let z : n + 1 ≡ suc n = omega arith in
    rw (z, h, ← (bit_odd (get_or os n 0))) (sym (bits_value_snoc (key_of_path os n) (odd (get_or os n 0)) 0))

pub path_small : (os : List ℕ) (n : ℕ) → n ≤ 8 → bits_value (key_of_path os n) 0 < 256
unfolding key_of_path key_of tabulate
path_small os n h =
    let grows : bits_value (key_of_path os n) 0 ≤ bits_value (key_of_path os 8) 0 =
    le_ind (λ (x : ℕ). bits_value (key_of_path os n) 0 ≤ bits_value (key_of_path os x) 0) (omega arith)
    (λ x l y. omega (arith, y, bits_value_snoc (key_of_path os x) (odd (get_or os x 0)) 0)) 8 h in
    omega (arith, grows, bits_value_lt (λ (x : ℕ). odd (get_or os x 0)))

-- bits behind the last are 0
zeros : (f : ℕ → Bool) (n i : ℕ) → ((x : ℕ) → n ≤ x → f x ≡ false) → bits_value (tabulate f (n + i)) 0 ≡ bits_value (tabulate f n) 0 * 2 ^ i
unfolding tabulate
zeros f n zero h = let z : n + 0 ≡ n = omega arith in rw z (omega arith)
zeros f n (suc i) h =
    let z : n + suc i ≡ suc (n + i) = omega arith in
    let b : bit (f (n + i)) ≡ 0 = rw (h (n + i) (omega arith)) refl in
    let d : bits_value (tabulate f n) 0 * 2 ^ suc i ≡ 2 * (bits_value (tabulate f n) 0 * 2 ^ i) = rw pow-succ' (mul_left_comm (bits_value (tabulate f n) 0) 2 (2 ^ i)) in
    rw z (omega (arith, bits_value_snoc (tabulate f (n + i)) (f (n + i)) 0, zeros f n i h, b, d))

pub byte_lt : (k : Key) (j : ℕ) → byte_of k j < 256
unfolding byte_of
byte_lt k j = bits_value_lt (λ (x : ℕ). get_or k (8 * j + x) false)

-- byte j of the key from the offsets of its bits
module _ (os : List ℕ) (m j n : ℕ) (long : m ≤ length os) (few : n ≤ 8) (in_key : 8 * j + n ≤ m) where
  bits_are : tabulate (λ (x : ℕ). get_or (key_of_path os m) (8 * j + x) false) n ≡ key_of_path (take n (drop (8 * j) os)) n
  unfolding key_of_path key_of
  bits_are =
      tabulate_ext (λ (x : ℕ). get_or (key_of_path os m) (8 * j + x) false) (λ (x : ℕ). odd (get_or (take n (drop (8 * j) os)) x 0)) n
      (λ x h. get_d_tabulate (λ (d : ℕ). odd (get_or os d 0)) m (8 * j + x) false (omega arith)
      ∙ ap odd (sym (get_or-take n (drop (8 * j) os) x 0 h ∙ get_or-drop (8 * j) os x 0)))

  abbrev bits_of : ℕ → Type 0
  bits_of v = v ≡ bits_value (key_of_path (take n (drop (8 * j) os)) (length (take n (drop (8 * j) os)))) 0

  value_is : (v : ℕ) → bits_of v → v ≡ bits_value (tabulate (λ (x : ℕ). get_or (key_of_path os m) (8 * j + x) false) n) 0
  value_is v h = rw bits_are (rw (length-take-le n (drop (8 * j) os) (omega (arith, long, length-drop (8 * j) os))) at h)

  pub byte_whole : n ≡ 8 → (v : ℕ) → bits_of v → v ≡ byte_of (key_of_path os m) j
  unfolding byte_of
  byte_whole e v h = value_is v h ∙ ap (λ i. bits_value (tabulate (λ (x : ℕ). get_or (key_of_path os m) (8 * j + x) false) i) 0) e

  pub byte_part : 8 * j + n ≡ m → (v s : ℕ) → bits_of v → s ≡ 8 - n → v * 2 ^ s ≡ byte_of (key_of_path os m) j
  unfolding byte_of key_of_path
  byte_part e v s h q =
      let f : ℕ → Bool = λ (x : ℕ). get_or (key_of_path os m) (8 * j + x) false in
      let z : n + (8 - n) ≡ 8 = omega arith in
      rw (value_is v h, q)
      (sym (zeros f n (8 - n) (λ x h. get_or-eq_default (key_of_path os m) false (omega (arith, key_length (λ (d : ℕ). get_or os d 0) m))))
      ∙ ap (λ i. bits_value (tabulate f i) 0) z)

-- one byte more at the front
pub written : (f : ℕ → ℕ) (j x : ℕ) (l out : List ℕ) → j < length l → out ≡ tabulate f j ++ drop j l → x ≡ f j → set out j x ≡ tabulate f (j + 1) ++ drop (j + 1) l
unfolding tabulate
written f j x l out h e q =
    let z : j + 1 ≡ suc j = omega arith in
    let d : drop j l ≡ get_or l j 0 ∷ drop (suc j) l = drop-cons l j 0 h in
    rw (z, e, d, q)
    (ap (λ i. set (tabulate f j ++ get_or l j 0 ∷ drop (suc j) l) i (f j)) (sym (length_tabulate f j)) ∙ set-append_seam (tabulate f j) (get_or l j 0) (drop (suc j) l) (f j)
    ∙ sym (append_assoc (tabulate f j) (f j ∷ []) (drop (suc j) l)))

pub none_written : (f : ℕ → ℕ) (l : List ℕ) → l ≡ tabulate f 0 ++ drop 0 l
unfolding tabulate
none_written f l = refl

pub all_written : (os : List ℕ) (m : ℕ) (l out : List ℕ) (j : ℕ) → out ≡ tabulate (byte_of (key_of_path os m)) j ++ drop j l → j ≡ started 8 m → out ≡ front (pack_bits (key_of_path os m)) l
unfolding front pack_bits started key_of_path
all_written os m l out j e z =
    let n : length (key_of (λ (i : ℕ). get_or os i 0) m) ≡ m = key_length (λ (i : ℕ). get_or os i 0) m in
    let y : (length (key_of (λ (i : ℕ). get_or os i 0) m) + 7) / 8 ≡ j = rw n (sym z) in
    rw (y, length_tabulate (byte_of (key_of (λ (i : ℕ). get_or os i 0) m)) j) e
