use Rattle.std.proofs.Common.{◌≡◌, ℕ, suc, ◌+◌, ◌++◌, ◌-◌, ◌*◌, ◌∷◌, length, take, drop, get_or, length-append, ap, ◌∙◌, arith}
use borrow.Rule.Slice.PartMut.{put_mid}
use Rattle.loes.specs.Limits.{head_bytes, width_bytes, count_bytes, level_entry}
use Rattle.loes.specs.Bytes.{Bytes, big_endian, big_endians, front}
use Rattle.loes.specs.Encode.{field}
use Rattle.loes.specs.Read.{level_bytes, edge_bytes, start2, start3, start4}
use Rattle.loes.proofs.Bytes.{length_big_endian, length_big_endians, field_length}
use Rattle.build.specs.Writing.{shape}
use Rattle.build.proofs.Front.{behind}
use Rattle.build.proofs.put_shape.Goals as goal

pub returns : goal.returns
unfolding big_endians shape start4
returns c =
    let xs = c.args.out.now in
    let m = length c.args.ends.now in
    let f = λ (d : ℕ). get_or c.args.ends.now d 0 in
    let f1 : Bytes = field 1 (big_endian width_bytes m) in
    let f2 : Bytes = field 2 (big_endian count_bytes c.args.n) in
    let f3 : Bytes = field 3 (big_endians level_entry f m) in
    let head : Bytes = 4 ∷ big_endian 2 (edge_bytes c.args.b) in
    let one : length f1 ≡ start2 = omega (arith, field_length 1 (big_endian width_bytes m), length_big_endian width_bytes m) in
    let two : length (f1 ++ f2) ≡ start3 = omega (arith, one, length-append f1 f2, field_length 2 (big_endian count_bytes c.args.n), length_big_endian count_bytes c.args.n) in
    let three : length ((f1 ++ f2) ++ f3) ≡ start3 + head_bytes + level_bytes m = omega (arith, two, length-append (f1 ++ f2) f3, field_length 3 (big_endians level_entry f m), length_big_endians level_entry f m) in
    let four : length head ≡ head_bytes = ap suc (length_big_endian 2 (edge_bytes c.args.b)) in
    let a = c.put_numbers.new.out in
    let b = put_mid start2 (length a - start2) a c.put_numbers-2.new.out in
    let d = put_mid start3 (length b - start3) b c.put_numbers-3.new.out in
    let second : b ≡ front (f1 ++ f2) xs = behind f1 f2 xs a c.put_numbers-2.new.out start2 one c.put_numbers.ensures (omega (arith, one, two, length-append f1 f2)) c.put_numbers-2.ensures in
    let third : d ≡ front ((f1 ++ f2) ++ f3) xs = behind (f1 ++ f2) f3 xs b c.put_numbers-3.new.out start3 two second (omega (arith, two, three, length-append (f1 ++ f2) f3)) c.put_numbers-3.ensures in
    let at : ℕ = start3 + head_bytes + level_entry * m in
    let last = c.put_head.ensures ∙ ap (λ n. front (4 ∷ big_endian 2 n) (take (length d - at) (drop at d))) c.bytes_for.ensures.0 in
    behind ((f1 ++ f2) ++ f3) head xs d c.put_head.new.out at three third (omega (arith, three, four)) last
