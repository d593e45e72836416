use mathlib.Core.Path.{◌≡◌, sym, ap, ◌∙◌}
use Prim.Native.Nat.{ℕ}
use native.Mathlib.Omega.{arith}
use native.Mathlib.Numerals.{add-one}
use lib.Dec.{leb}
use Rattle.loes.specs.Bytes.{Bytes, bit}
use Rattle.loes.proofs.Tree.{bit_le}
use Rattle.pack.proofs.SetBits.{byte_bit}
use Rattle.pack.proofs.Grow.{count_start, count_step}
use Rattle.pack.proofs.Batches.{keys, batch_members, clean}
use Rattle.pack.specs.Batch.{key}
use Rattle.pack.specs.Rising.{first_new}
use Rattle.pack.specs.declared.batch.Batch.{Batch}
use mathlib.Core.Path.{ap₂}
use Rattle.pack.proofs.count_members.Goals as goal

-- the keys are those of the bytes
known : (batch : Batch) (m i : ℕ) (l : Bytes) → batch.width ≡ m → batch.bytes.now ≡ l → first_new (key batch.width batch.bytes.now) i ≡ first_new (key m l) i
known batch m i l w e = ap₂ (λ x y. first_new (key x y) i) w e

pub of-keys-requires : goal.of-keys-requires
of-keys-requires c = let b = clean c.args.m c.args.batch.now c.requires in (b.batch.positive, b.batch.narrow, b.even)

pub loop-i-init : goal.loop-i-init
loop-i-init c = record { counted = sym (count_start c.args.m (key c.args.m c.args.batch.now) c.args.m); few = omega arith }

pub loop-i-preserved : goal.loop-i-preserved
loop-i-preserved c =
    let m = c.args.m in
    let l = c.args.batch.now in
    let i = c.loop-i.i in
    let new = c.first_new.result in
    let is : new ≡ first_new (key m l) i = c.first_new.ensures ∙ known c.of-keys.result m i l c.of-keys.ensures.0 c.of-keys.ensures.2 in
    let bit_is = byte_bit (leb new m) in
    record {
      counted =
          rw (add-one i)
          (omega (arith, bit_is, ap (λ x. bit (leb x m)) is, c.loop-i.invariant.counted, count_step m (keys m l) (key m l) (clean m l c.requires).rises i m (omega (arith, c.of-keys.ensures.1)) (omega arith)));
      few = omega (arith, bit_is, bit_le (leb new m), c.loop-i.invariant.few);
    }

pub returns : goal.returns
returns c =
    let m = c.args.m in
    let l = c.args.batch.now in
    let z : c.loop-i.i ≡ keys m l = omega (arith, c.of-keys.ensures.1) in
    (rw z at c.loop-i.invariant.counted) ∙ sym (batch_members m l)
