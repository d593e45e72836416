-- A buffer whose front is written, piece behind piece.
use mathlib.Core.Path.{◌≡◌, refl, sym, ap, ap₂, ◌∙◌}
use mathlib.Core.List.{[], ◌∷◌, ◌++◌, append_assoc, append-nil}
use Prim.Native.Nat.{ℕ, ◌+◌, ◌-◌, ◌*◌, ◌/◌, ◌^◌, ◌≤◌, ◌<◌}
use native.Mathlib.Omega.{arith}
use lib.ListN.{length, take, drop, length-append, length-take, length-drop, drop_of_length-le, take-append-drop}
use lib.Seq.{take_all, take_at, drop_at, take-take, drop-drop, take-append-le, drop-append-add, length-take-le}
use native.Mathlib.Numerals.{add-one}
use native.Mathlib.Nat.{mul_comm}
use borrow.Rule.Slice.PartMut.{put_mid}
use Rattle.loes.specs.Limits.{head_bytes}
use Rattle.loes.specs.Bytes.{Bytes, big_endian, big_endians, front}
use Rattle.loes.specs.Encode.{field}
use Rattle.loes.proofs.Bytes.{length_big_endian, length_big_endians, field_length}

-- xs is the buffer at first and zs the buffer with f in front; a callee is lent `&mut out[n..]`, n being f's length, and leaves ys of it
module _ (f g xs zs ys : Bytes) (n : ℕ) (size : length f ≡ n) (done : zs ≡ front f xs) (room : length f + length g ≤ length xs) where
  pub length_zs : length zs ≡ length xs
  unfolding front
  length_zs = ap length done ∙ simp (length-append, length-drop) (omega arith)

  drop_zs : drop n zs ≡ drop (length f) xs
  unfolding front
  drop_zs = ap (drop n) done ∙ drop_at f (drop (length f) xs) n size

  long : length (drop (length f) xs) ≤ length zs - n
  long = omega (arith, length-drop (length f) xs, length_zs)

  -- the part that the callee is lent
  pub part : take (length zs - n) (drop n zs) ≡ drop (length f) xs
  part = ap (take (length zs - n)) drop_zs ∙ take_all (length zs - n) (drop (length f) xs) long

  -- it has room for g
  pub part_room : length g ≤ length (take (length zs - n) (drop n zs))
  part_room = omega (arith, ap length part, length-drop (length f) xs)

  -- what is handed back: f and then g in front
  pub behind : ys ≡ front g (take (length zs - n) (drop n zs)) → put_mid n (length zs - n) zs ys ≡ front (f ++ g) xs
  unfolding front
  behind e =
      let before : take n zs ≡ f = ap (take n) done ∙ take_at f (drop (length f) xs) n size in
      let gone : drop (length zs - n) (drop n zs) ≡ [] = ap (drop (length zs - n)) drop_zs ∙ drop_of_length-le (drop (length f) xs) long in
      let wrote : ys ≡ g ++ drop (length f + length g) xs = e ∙ rw (part, drop-drop) in
      rw (before, gone, wrote, append-nil, length-append, append_assoc)

-- what stands before a place is in front already
pub front_take : (k : ℕ) (xs : Bytes) → k ≤ length xs → xs ≡ front (take k xs) xs
unfolding front
front_take k xs h = sym (take-append-drop k xs) ∙ ap (λ n. take k xs ++ drop n xs) (sym (length-take-le k xs h))

-- and stays, when h is written at the place
pub before_stays : (k n : ℕ) (h xs : Bytes) → n ≤ k → k ≤ length xs → take n (front (take k xs ++ h) xs) ≡ take n xs
unfolding front
before_stays k n h xs q r =
    ap (take n) (append_assoc (take k xs) h (drop (length (take k xs ++ h)) xs))
    ∙ take-append-le n (take k xs) (h ++ drop (length (take k xs ++ h)) xs) (omega (arith, length-take-le k xs r)) ∙ take-take n k xs q

-- a callee is lent `&mut xs[k..]`, puts g to its front and leaves ys
pub put_at : (k : ℕ) (g xs ys : Bytes) → k + length g ≤ length xs → ys ≡ front g (take (length xs - k) (drop k xs)) → put_mid k (length xs - k) xs ys ≡ front (take k xs ++ g) xs
put_at k g xs ys h =
    behind (take k xs) g xs xs ys k (length-take-le k xs (omega arith)) (front_take k xs (omega arith)) (omega (arith, length-take-le k xs (omega arith)))

-- behind the first n of xs come g and h, and h is written first, which leaves us; then g by a callee that is lent `&mut us[n..]` and leaves ys
module _ (g h xs us ys : Bytes) (n m : ℕ) (place : n + length g ≡ m) (room : m + length h ≤ length xs) (last : us ≡ front (take m xs ++ h) xs) where
  long_before : length (take m xs ++ h) ≡ m + length h
  long_before = length-append (take m xs) h ∙ ap (λ k. k + length h) (length-take-le m xs (omega arith))

  pub long_us : length us ≡ length xs
  unfolding front
  long_us = ap length last ∙ simp (length-append, length-drop) (omega (arith, long_before, length-append (take m xs) h))

  same_before : take n us ≡ take n xs
  same_before = ap (take n) last ∙ before_stays m n h xs (omega arith) (omega arith)

  room_us : n + length g ≤ length us
  room_us = omega (arith, long_us)

  pub part_us : length g ≤ length (take (length us - n) (drop n us))
  part_us = omega (arith, room_us, length-take (length us - n) (drop n us), length-drop n us)

  pub between : ys ≡ front g (take (length us - n) (drop n us)) → put_mid n (length us - n) us ys ≡ front ((take n xs ++ g) ++ h) xs
  unfolding front
  between e =
      let size : length (take n us ++ g) ≡ m = omega (arith, length-append (take n us) g, length-take-le n us (omega (arith, room_us))) in
      let same : length (take n xs ++ g) ≡ m = omega (arith, length-append (take n xs) g, length-take-le n xs (omega arith)) in
      let rest : Bytes = drop (m + length h) xs in
      let d : drop m us ≡ h ++ rest =
      ap (drop m) (last ∙ ap (λ k. (take m xs ++ h) ++ drop k xs) long_before ∙ append_assoc (take m xs) h rest) ∙ drop_at (take m xs) (h ++ rest) m (length-take-le m xs (omega arith)) in
      put_at n g us ys room_us e ∙ rw (size, d, same_before, length-append (take n xs ++ g) h, same) (sym (append_assoc (take n xs ++ g) h rest))

-- a number below 2 ^ 32 in 8 bytes has four zeros in front
pub eight : (n : ℕ) → n < 2 ^ 32 → big_endian 4 0 ++ big_endian 4 n ≡ big_endian 8 n
unfolding big_endian
eight n h = let z : n / 256 / 256 / 256 / 256 ≡ 0 = omega arith in rw z

-- ---- Numbers behind a head
-- a head that is there already
pub front_again : (h x xs : Bytes) → front (h ++ x) (front h xs) ≡ front (h ++ x) xs
unfolding front
front_again h x xs = rw (length-append h x) (ap (λ y. (h ++ x) ++ y) (drop-append-add h (drop (length h) xs) (length x) ∙ drop-drop (length x) (length h) xs))

pub length_front : (x xs : Bytes) → length x ≤ length xs → length (front x xs) ≡ length xs
unfolding front
length_front x xs h = simp (length-append, length-drop) (omega arith)

-- no numbers yet
pub front_start : (h xs zs : Bytes) (w : ℕ) (f : ℕ → ℕ) → zs ≡ front h xs → zs ≡ front (h ++ big_endians w f 0) zs
unfolding big_endians
front_start h xs zs w f e = e ∙ ap (λ x. front x xs) (sym (append-nil h)) ∙ sym (front_again h [] xs) ∙ ap (front (h ++ [])) (sym e)

-- xs is the buffer with the head h in front, zs the same with numbers f 0 … f (d - 1) behind it; a callee is lent the part behind them
module _ (h xs zs ys : Bytes) (w : ℕ) (f : ℕ → ℕ) (d n : ℕ) (size : length h + w * d ≡ n) (done : zs ≡ front (h ++ big_endians w f d) xs) (room : n + w ≤ length xs) where
  long_front : length (h ++ big_endians w f d) ≡ n
  long_front = length-append h (big_endians w f d) ∙ ap (λ k. length h + k) (length_big_endians w f d ∙ mul_comm d w) ∙ size

  fits : length (h ++ big_endians w f d) + length (big_endian w (f d)) ≤ length xs
  fits = omega (arith, long_front, length_big_endian w (f d))

  pub numbers_now : length zs ≡ length xs
  numbers_now = length_zs (h ++ big_endians w f d) (big_endian w (f d)) xs zs ys n long_front done fits

  pub numbers_room : w ≤ length (take (length zs - n) (drop n zs))
  numbers_room =
      omega (arith, part_room (h ++ big_endians w f d) (big_endian w (f d)) xs zs ys n long_front done fits, length_big_endian w (f d))

  -- the number x is written there
  pub numbers_more : (x : ℕ) → x ≡ f d → ys ≡ front (big_endian w x) (take (length zs - n) (drop n zs))
      → put_mid n (length zs - n) zs ys ≡ front (h ++ big_endians w f (d + 1)) xs
  unfolding big_endians
  numbers_more x v e =
      behind (h ++ big_endians w f d) (big_endian w (f d)) xs zs ys n long_front done fits (e ∙ ap (λ y. front (big_endian w y) (take (length zs - n) (drop n zs))) v)
      ∙ rw add-one (ap (λ x. front x xs) (append_assoc h (big_endians w f d) (big_endian w (f d))))

-- a head and a body are a field
pub field_is : (t : ℕ) (x : Bytes) (n : ℕ) → length x ≡ n → (t ∷ big_endian 2 n) ++ x ≡ field t x
unfolding field
field_is t x n h = ap (λ k. (t ∷ big_endian 2 k) ++ x) (sym h)

-- a field of numbers behind p, when all are written
pub numbers_field : (p : Bytes) (t w : ℕ) (f : ℕ → ℕ) (n len : ℕ) (xs zs ys : Bytes) → n * w ≡ len → zs ≡ front (p ++ t ∷ big_endian 2 len) xs
    → ys ≡ front ((p ++ t ∷ big_endian 2 len) ++ big_endians w f n) zs → ys ≡ front (p ++ field t (big_endians w f n)) xs
numbers_field p t w f n len xs zs ys e g h =
    h ∙ ap (front ((p ++ t ∷ big_endian 2 len) ++ big_endians w f n)) g ∙ front_again (p ++ t ∷ big_endian 2 len) (big_endians w f n) xs
    ∙ ap (λ x. front x xs) (append_assoc p (t ∷ big_endian 2 len) (big_endians w f n) ∙ ap (λ x. p ++ x) (field_is t (big_endians w f n) len (length_big_endians w f n ∙ e)))

-- a field in front leaves the buffer's length
pub field_long : (t : ℕ) (x xs ys : Bytes) → ys ≡ front (field t x) xs → head_bytes + length x ≤ length xs → length ys ≡ length xs
field_long t x xs ys e h = ap length e ∙ length_front (field t x) xs (omega (arith, field_length t x))

-- the last number, written again, changes nothing
pub numbers_again : (xs zs ys : Bytes) (w : ℕ) (f : ℕ → ℕ) (k n : ℕ) → w * k ≡ n → n ≤ length zs → zs ≡ front (big_endians w f (k + 1)) xs
    → ys ≡ front (big_endian w (f k)) (take (length zs - n) (drop n zs)) → put_mid n (length zs - n) zs ys ≡ zs
unfolding front big_endians
numbers_again xs zs ys w f k n size room done e =
    let p : Bytes = big_endians w f k in
    let x : Bytes = big_endian w (f k) in
    let r : Bytes = drop (length (p ++ x)) xs in
    let long : length p ≡ n = length_big_endians w f k ∙ mul_comm k w ∙ size in
    let all : zs ≡ p ++ (x ++ r) = (rw add-one at done) ∙ append_assoc p x r in
    let rest : drop n zs ≡ x ++ r = ap (drop n) all ∙ drop_at p (x ++ r) n long in
    let part : take (length zs - n) (drop n zs) ≡ drop n zs = take_all (length zs - n) (drop n zs) (omega (arith, length-drop n zs)) in
    let gone : drop (length zs - n) (drop n zs) ≡ [] = drop_of_length-le (drop n zs) (omega (arith, length-drop n zs)) in
    let wrote : ys ≡ drop n zs = e ∙ ap (λ y. x ++ drop (length x) y) (part ∙ rest) ∙ ap (λ y. x ++ y) (drop_at x r (length x) refl) ∙ sym rest in
    rw (gone, wrote, append-nil) (take-append-drop n zs)

-- a buffer in three parts: the first stays, g fills the second, and h is put to the front of the third
pub three_parts : (a b c g h xs ys zs : Bytes) → xs ≡ a ++ (b ++ c) → length g ≡ length b → ys ≡ front g b → zs ≡ front h c → a ++ (ys ++ zs) ≡ front ((a ++ g) ++ h) xs
unfolding front
three_parts a b c g h xs ys zs parts full second third =
    let whole : ys ≡ g = second ∙ ap (λ x. g ++ x) (drop_of_length-le b (omega arith)) ∙ append-nil g in
    let n : length ((a ++ g) ++ h) ≡ length a + (length b + length h) = simp length-append (omega arith) in
    let rest : drop (length ((a ++ g) ++ h)) xs ≡ drop (length h) c =
    ap₂ drop n parts ∙ drop-append-add a (b ++ c) (length b + length h) ∙ drop-append-add b c (length h) in
    rw (whole, third, rest) (simp append_assoc)

-- a buffer in two parts: g fills the first, and h is put to the front of the second
pub two_parts : (b c g h xs ys zs : Bytes) → xs ≡ b ++ c → length g ≡ length b → ys ≡ front g b → zs ≡ front h c → ys ++ zs ≡ front (g ++ h) xs
two_parts b c g h xs ys zs = three_parts [] b c g h xs ys zs
