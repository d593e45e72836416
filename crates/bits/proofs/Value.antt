-- The value of bytes, the most significant first: one byte more, zeros in front, and of eight the sum that the library gives.
use Rattle.std.proofs.Common.{◌≡◌, ℕ, zero, suc, ◌+◌, ◌-◌, ◌*◌, ◌^◌, ◌<◌, ◌≤◌, [], ◌∷◌, ◌++◌, length, length-drop, get_or, take, drop, replicate, refl, ap, ◌∙◌, arith, append-nil}
use Rattle.std.proofs.Math.Nat.{pow-succ'}
use Rattle.std.proofs.Math.Seq.{take-suc}
use Rattle.std.proofs.Math.ListN.{drop_of_length-le}
use Rattle.std.proofs.lemmas.List.{take_all}
use Rattle.loes.specs.Bytes.{Bytes, bytes_value}
use Rattle.loes.proofs.Numbers.{value_snoc}

value_more : (l : Bytes) (i : ℕ) → i < length l → bytes_value (take (suc i) l) 0 ≡ 256 * bytes_value (take i l) 0 + get_or l i 0
value_more l i h = rw (take-suc l i 0 h, value_snoc (take i l) (get_or l i 0) 0)

-- so many bytes are below the power of so many
pub value_below : (l : Bytes) (i : ℕ) → ((j : ℕ) → j < length l → get_or l j 0 < 256) → i ≤ length l → bytes_value (take i l) 0 < 256 ^ i
value_below l zero s h = unfold bytes_value in omega arith
value_below l (suc i) s h = omega (arith, value_more l i h, pow-succ' 256 i, value_below l i s (omega arith), s i h)

value_append : (a b : Bytes) (acc : ℕ) → bytes_value (a ++ b) acc ≡ bytes_value b (bytes_value a acc)
unfolding bytes_value
value_append [] b acc = refl
value_append (x ∷ a) b acc = value_append a b (256 * acc + x)

zeros_value : (n m : ℕ) → bytes_value (take n (replicate m 0)) 0 ≡ 0
unfolding bytes_value
zeros_value zero m = refl
zeros_value (suc n) zero = refl
zeros_value (suc n) (suc m) = zeros_value n m

-- eight bytes, of which the last n are these and the others 0
pub behind_zeros : (n : ℕ) (l : Bytes) → n ≤ 8 → length l ≡ n
    → bytes_value (take (8 - n) (replicate 8 0) ++ (l ++ drop (8 - (8 - n)) (drop (8 - n) (replicate 8 0)))) 0 ≡ bytes_value l 0
behind_zeros n l h e =
    let b : Bytes = drop (8 - n) (replicate 8 0) in
    let d : length b ≤ 8 - (8 - n) = omega (arith, length-drop (8 - n) (replicate {A = ℕ} 8 0)) in
    let z : drop (8 - (8 - n)) b ≡ [] = drop_of_length-le b d in
    ap (λ x. bytes_value (take (8 - n) (replicate 8 0) ++ (l ++ x)) 0) z
    ∙ ap (λ x. bytes_value (take (8 - n) (replicate 8 0) ++ x) 0) (append-nil l)
    ∙ value_append (take (8 - n) (replicate 8 0)) l 0
    ∙ ap (bytes_value l) (zeros_value (8 - n) 8)

-- eight bytes as the library adds them up
pub value_eight : (w : Bytes) → length w ≡ 8
    → get_or w 0 0 * 2 ^ 56 + get_or w 1 0 * 2 ^ 48 + get_or w 2 0 * 2 ^ 40 + get_or w 3 0 * 2 ^ 32 + get_or w 4 0 * 2 ^ 24 + get_or w 5 0 * 2 ^ 16 + get_or w 6 0 * 2 ^ 8 + get_or w 7 0 ≡ bytes_value w 0
value_eight w e =
    let z : bytes_value (take 0 w) 0 ≡ 0 = unfold bytes_value in refl in
    let m : (i : ℕ) → i < 8 → bytes_value (take (suc i) w) 0 ≡ 256 * bytes_value (take i w) 0 + get_or w i 0 = λ i h. value_more w i (omega (arith, e)) in
    omega
    (arith, z, m 0 (omega arith), m 1 (omega arith), m 2 (omega arith), m 3 (omega arith), m 4 (omega arith), m 5 (omega arith), m 6 (omega arith), m 7 (omega arith), ap (λ x. bytes_value x 0) (take_all 8 w (omega (arith, e))))
