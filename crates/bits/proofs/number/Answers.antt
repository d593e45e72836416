use Rattle.std.proofs.Common.{arith, ◌≡◌, ◌<◌, ◌≤◌, ◌+◌, ◌-◌, ◌^◌, ◌∙◌, sym, ap, subst, length, length-drop, take, drop, replicate}
use Rattle.std.proofs.lemmas.List.{length-take-le, get_or-drop}
use borrow.Rule.Slice.PartMut.{put_mid, same_len_mid}
use Rattle.loes.specs.Bytes.{bytes_value, number_at}
use Rattle.bits.proofs.Value.{value_below, behind_zeros, value_eight}
use Rattle.bits.proofs.number.Goals as goal

pub returns : goal.returns
unfolding number_at
returns g c =
    let a = c.args in
    let k = g.row.K in
    let b = drop a.at a.l.now in
    let y = c.copy_from_slice.new.self in
    let z : a.at + k - a.at ≡ k = omega arith in
    let p : y ≡ take k b = rw z at c.copy_from_slice.ensures.after in
    let q : k ≤ length b = omega (arith, length-drop a.at a.l.now) in
    let n : length y ≡ k = ap length p ∙ length-take-le k b q in
    let e : length (put_mid (8 - k) (8 - (8 - k)) (replicate 8 0) y) ≡ 8 = same_len_mid (8 - k) (8 - (8 - k)) (replicate 8 0) y c.copy_from_slice.ensures.len in
    let r : c.from_be_bytes.result ≡ bytes_value (take k b) 0 =
    c.from_be_bytes.ensures ∙ value_eight (put_mid (8 - k) (8 - (8 - k)) (replicate 8 0) y) e ∙ behind_zeros k y c.requires.0 n ∙ ap (λ x. bytes_value x 0) p in
    (r, subst (λ x. x < 256 ^ k) (sym r) (value_below b k (λ j h. rw (get_or-drop a.at a.l.now j 0) (c.type_inv.l (a.at + j)).fits) q))
