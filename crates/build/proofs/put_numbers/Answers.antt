use Rattle.std.proofs.Common.{◌≡◌, ℕ, suc, ◌+◌, ◌*◌, ◌≤◌, [], ◌∷◌, length, get_or, arith, ap, refl}
use Rattle.loes.specs.Limits.{head_bytes}
use Rattle.loes.specs.Bytes.{Bytes, big_endian}
use Rattle.loes.proofs.Bytes.{length_big_endian}
use Rattle.std.proofs.Math.Nat.{mul-le-mul_left, mul-suc, mul_comm}
use Rattle.build.proofs.Front.{front_start, numbers_more, numbers_field}
use Rattle.encoding.specs.Fields.{tag_of}
use Rattle.build.proofs.put_numbers.Goals as goal

-- the head of n bytes
abbrev head : ℕ → ℕ → Bytes
head tag n = tag ∷ big_endian 2 n

length_head : (tag n : ℕ) → length (head tag n) ≡ head_bytes
length_head tag n = ap suc (length_big_endian 2 n)

pub loop-j-init : goal.loop-j-init
loop-j-init g c =
    let k = g.row.K in
    let numbers = c.args.numbers.now in
    front_start (head (tag_of c.args.kind) (k * length numbers)) c.args.out.now c.put_head.new.out k (λ (j : ℕ). get_or numbers j 0) c.put_head.ensures

pub loop-j-preserved : goal.loop-j-preserved
loop-j-preserved g c =
    let k = g.row.K in
    let numbers = c.args.numbers.now in
    let h : Bytes = head (tag_of c.args.kind) (k * length numbers) in
    let f = λ (j : ℕ). get_or numbers j 0 in
    let j = c.loop-j.j in
    let xs = c.put_head.new.out in
    let room : head_bytes + k * j + k ≤ length xs = let most : k * suc j ≤ k * length numbers = mul-le-mul_left k (omega arith) in omega (arith, mul-suc k j) in
    numbers_more h xs c.loop-j.out c.put.new.out k f j (head_bytes + k * j) (omega (arith, length_head (tag_of c.args.kind) (k * length numbers))) c.loop-j.invariant room (f j) refl c.put.ensures

pub returns : goal.returns
returns g c =
    let k = g.row.K in
    let numbers = c.args.numbers.now in
    let f = λ (j : ℕ). get_or numbers j 0 in
    let z : c.loop-j.j ≡ length numbers = omega arith in
    numbers_field [] (tag_of c.args.kind) k f (length numbers) (k * length numbers) c.args.out.now c.put_head.new.out c.loop-j.out (mul_comm (length numbers) k) c.put_head.ensures (rw z at c.loop-j.invariant)
