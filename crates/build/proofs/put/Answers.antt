use Rattle.std.proofs.Common.{◌≡◌, ◌≤◌, ◌-◌, ◌++◌, length, drop, arith, ap, ap₂, sym, ◌∙◌}
use lib.Seq.{take_all}
use Rattle.loes.specs.Bytes.{big_endian, front}
use Rattle.loes.proofs.Bytes.{length_big_endian}
use Rattle.build.proofs.Numbers.{last_bytes}
use Rattle.build.proofs.put.Goals as goal

pub returns : goal.returns
unfolding front
returns g c =
    let k = g.row.K in
    let n = c.args.n in
    let l = drop (8 - k) c.to_be_bytes-bytes.result in
    let same : l ≡ big_endian k n = ap (drop (8 - k)) c.to_be_bytes-bytes.ensures ∙ last_bytes k n (omega arith) in
    let long : length l ≤ 8 - (8 - k) = omega (arith, ap length same, length_big_endian k n) in
    let bytes : c.copy_from_slice.new.self ≡ big_endian k n = c.copy_from_slice.ensures.after ∙ take_all (8 - (8 - k)) l long ∙ same in
    ap₂ (λ x m. x ++ drop m c.args.out.now) bytes (sym (length_big_endian k n))
