use native.Mathlib.Omega.{arith}
use Rattle.loes.specs.Bytes.{started}
use Rattle.loes.specs.Entry.{key_bytes}
use Rattle.pack.proofs.Prefixes.{common_whole, common_past, common_within}
use native.Mathlib.Decide.{dec_le}
use Prim.Native.Nat.{◌*◌, ◌+◌}
use mathlib.Core.Path.{◌≡◌, ◌∙◌}
use lib.ListN.{length}
use Rattle.loes.specs.Entry.{key_bytes}
use Rattle.loes.specs.Bytes.{started}
use Rattle.pack.proofs.common_prefix.Goals as goal

pub returns-then-j-x : goal.returns-then-j-x
unfolding key_bytes started
returns-then-j-x c = common_whole c.args.m c.args.x.now c.args.y.now (length c.args.x.now) c.same_bytes-j.result c.same_bytes-j.ensures (omega arith)

pub overflow_mul-j : goal.overflow_mul-j
unfolding key_bytes started
overflow_mul-j c = omega arith

pub overflow_add-j : goal.overflow_add-j
unfolding key_bytes started
overflow_add-j c = omega arith

pub returns : goal.returns
unfolding key_bytes started
returns c =
    let m = c.args.m in
    let j = c.same_bytes-j in
    let d = c.first_difference in
    let x = c.args.x.now in
    let y = c.args.y.now in
    elim (dec_le m (8 * j.result + d.result)) [
      | yes h ↦ let z : c.min.result ≡ m = omega arith in z ∙ common_past m x y (length x) j.result j.ensures d.result d.ensures h
      | no h ↦ let z : c.min.result ≡ 8 * j.result + d.result = omega arith in z ∙ common_within m x y (length x) j.result j.ensures d.result d.ensures (omega arith)
    ]
