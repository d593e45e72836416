-- Text put into a buffer, one behind the other.
use mathlib.Core.Path.{◌≡◌, refl, sym, ap, ap₂, ◌∙◌}
use Prim.Native.Nat.{◌-◌, ℕ, suc, ◌+◌, ◌≤◌, ◌<◌}
use mathlib.Core.List.{[], ◌∷◌, ◌++◌, append_assoc, append-nil}
use native.Mathlib.Omega.{arith}
use borrow.Rule.Slice.PartMut.{put_mid}
use lib.ListN.{length, take, drop, set, length-append, length-drop, take-append-drop}
use lib.Seq.{length-take-le, set_split, append_snoc, take_at, drop-append-add, drop-drop}
use Rattle.loes.specs.Bytes.{Bytes}
use Rattle.printing.specs.Text.{with_text, Puts}

-- nothing was put yet
pub puts_none : (at end : ℕ) (d : Bytes) → at ≤ length d → end ≡ at → Puts at [] d end d
unfolding with_text
puts_none at end d h e =
    let z : at + 0 ≡ at = omega arith in
    record { room = omega arith; ends = e ∙ sym z; text = sym (ap₂ ◌++◌ (append-nil (take at d)) (ap (λ n. drop n d) z) ∙ take-append-drop at d) }

-- a byte was stored
pub puts_byte : (at b : ℕ) (d : Bytes) → at < length d → Puts at (b ∷ []) d (at + 1) (set d at b)
unfolding with_text
puts_byte at b d h =
    let z : at + 1 ≡ suc at = omega arith in
    record { room = omega arith; ends = refl; text = set_split d at b h ∙ sym (append_snoc (take at d) b (drop (suc at) d)) ∙ ap (λ n. take at d ++ b ∷ [] ++ drop n d) (sym z) }

-- a text was copied there
pub puts_text : (at : ℕ) (s d : Bytes) → at + length s ≤ length d → Puts at s d (at + length s) (put_mid at (at + length s - at) d s)
unfolding with_text
puts_text at s d h =
    let k : at + length s - at ≡ length s = omega arith in
    record {
      room = h;
      ends = refl;
      text = rw (k, drop-drop (length s) at d) (sym (append_assoc (take at d) s (drop (at + length s) d)));
    }

module _ {at m : ℕ} {s d d1 : Bytes} (p : Puts at s d m d1) where
  abbrev head : Bytes
  head = take at d ++ s

  long : length head ≡ m
  long = let h : at ≤ length d = omega (arith, p.room) in length-append (take at d) s ∙ ap (λ n. n + length s) (length-take-le at d h) ∙ sym p.ends

  is : d1 ≡ head ++ drop m d
  unfolding with_text
  is = p.text ∙ ap (λ n. head ++ drop n d) (sym p.ends)

  -- the buffer keeps its length
  pub puts_length : length d1 ≡ length d
  puts_length = let r : m ≤ length d = omega (arith, p.room, p.ends) in ap length is ∙ length-append head (drop m d) ∙ omega (arith, long, length-drop m d)

  -- another text behind it
  pub puts_then : {r : ℕ} {t d2 : Bytes} → Puts m t d1 r d2 → Puts at (s ++ t) d r d2
  unfolding with_text
  puts_then {r} {t} {d2} q =
      let before : take m d1 ≡ head = ap (take m) is ∙ take_at head (drop m d) m long in
      let behind : drop (m + length t) d1 ≡ drop (m + length t) d =
      ap (λ n. drop (n + length t) d1) (sym long) ∙ ap (drop (length head + length t)) is ∙ drop-append-add head (drop m d) (length t) ∙ drop-drop (length t) m d in
      let end : m + length t ≡ at + length (s ++ t) = omega (arith, p.ends, length-append s t) in
      record {
        room = omega (arith, q.room, puts_length, end);
        ends = q.ends ∙ end;
        text = q.text ∙ ap₂ (λ x y. x ++ t ++ y) before (behind ∙ ap (λ n. drop n d) end) ∙ ap (λ x. x ++ drop (at + length (s ++ t)) d) (append_assoc (take at d) s t);
      }

-- what was put at the front
pub puts_front : {s d : Bytes} {r : ℕ} {d1 : Bytes} → Puts 0 s d r d1 → take r d1 ≡ s
unfolding with_text
puts_front {s} {d} p =
    let z : 0 + length s ≡ length s = omega arith in
    ap₂ take (p.ends ∙ z) p.text ∙ take_at s (drop (0 + length s) d) (length s) refl
