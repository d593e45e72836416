-- Edge bytes put in their place in a buffer stand there, and nothing of them is left behind what is written around them.
use mathlib.Core.Path.{◌≡◌, sym, ap, ◌∙◌}
use Prim.Native.Nat.{ℕ, ◌+◌, ◌-◌, ◌≤◌}
use mathlib.Core.List.{◌++◌, append_assoc}
use native.Mathlib.Omega.{arith}
use lib.ListN.{length, take, drop, length-append, length-drop}
use lib.Seq.{length-take-le, take_at, drop_at, drop-drop}
use borrow.Rule.Slice.PartMut.{put_mid}
use Rattle.loes.specs.Bytes.{Bytes, front}
use Rattle.loes.specs.Read.{edge_bytes, body_at, start4, start5, start6, end_of}
use Rattle.build.specs.Writing.{standing}

-- the edges end before the encoding does
pub edges_end : (m b : ℕ) → body_at (start4 m) + edge_bytes b ≤ end_of m b
unfolding end_of start6 start5
edges_end m b = omega arith

-- l takes the place of the k bytes from a place on
module _ (m b at k : ℕ) (xs l : Bytes) (place : at ≡ body_at (start4 m)) (size : k ≡ edge_bytes b) (long : length l ≡ k) (room : end_of m b ≤ length xs) where
  before : length (take at xs) ≡ at
  before = length-take-le at xs (omega (arith, edges_end m b))

  pub stands : standing m b (put_mid at k xs l) ≡ l
  unfolding standing
  stands =
      rw (← place, ← size) (ap (take k) (drop_at (take at xs) (l ++ drop k (drop at xs)) at before) ∙ take_at l (drop k (drop at xs)) k long)

  pub length_put : length (put_mid at k xs l) ≡ length xs
  length_put = simp (length-append, length-drop) (omega (arith, before, edges_end m b))

  -- what is longer than all before them covers them
  pub covered : (x : Bytes) → length x ≡ end_of m b → front x (put_mid at k xs l) ≡ front x xs
  unfolding front
  covered x e =
      let n : ℕ = end_of m b - (at + k) in
      let z : at + k + n ≡ end_of m b = omega (arith, edges_end m b) in
      let h : length (take at xs ++ l) ≡ at + k = omega (arith, length-append (take at xs) l, before) in
      let d : drop (at + k) (put_mid at k xs l) ≡ drop (at + k) xs =
      ap (drop (at + k)) (sym (append_assoc (take at xs) l (drop k (drop at xs)))) ∙ drop_at (take at xs ++ l) (drop k (drop at xs)) (at + k) h ∙ drop-drop k at xs in
      rw (e, ← z) (ap (λ y. x ++ y) (sym (drop-drop n (at + k) (put_mid at k xs l)) ∙ ap (drop n) d ∙ drop-drop n (at + k) xs))
