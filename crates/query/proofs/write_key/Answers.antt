use mathlib.Core.Path.{◌≡◌}
use Prim.Native.Nat.{◌+◌, ◌-◌, ◌*◌, ◌^◌, ◌/◌, ◌%◌}
use native.Mathlib.Omega.{arith}
use Rattle.loes.specs.Bytes.{started, byte_of}
use Rattle.loes.specs.Cursor.{key_of_path}
use Rattle.loes.specs.Entry.{key_bytes}
use Rattle.query.proofs.Writing.{written, none_written, all_written, byte_whole, byte_part, byte_lt}
use Rattle.query.proofs.write_key.Goals as goal

pub loop-j-init : goal.loop-j-init
loop-j-init c = none_written _ _

pub overflow_cast-out : goal.overflow_cast-out
overflow_cast-out c =
    let whole : c.low_bits.result ≡ byte_of (key_of_path c.args.offsets.now c.args.m) c.loop-j.j =
    byte_whole c.args.offsets.now c.args.m c.loop-j.j (8 * c.loop-j.j + 8 - 8 * c.loop-j.j) c.requires.1 (omega arith) (omega arith) (omega arith) c.low_bits.result c.low_bits.ensures in
    omega (arith, whole, byte_lt (key_of_path c.args.offsets.now c.args.m) c.loop-j.j)

pub bounds-out-j : goal.bounds-out-j
unfolding key_bytes started
bounds-out-j c = omega (arith, c.requires.2, c.loop-j.auto.out, c.loop-j-test.true)

pub loop-j-preserved : goal.loop-j-preserved
unfolding key_bytes started
loop-j-preserved c =
    let whole = byte_whole c.args.offsets.now c.args.m c.loop-j.j (8 * c.loop-j.j + 8 - 8 * c.loop-j.j) c.requires.1 (omega arith) (omega arith) (omega arith) c.low_bits.result c.low_bits.ensures in
    written _ _ _ _ _ (omega (arith, c.requires.2, c.loop-j-test.true)) c.loop-j.invariant whole

pub returns-then-left-eq0 : goal.returns-then-left-eq0
unfolding key_bytes started
returns-then-left-eq0 c =
    (omega (arith, c.if-left-eq0.true), all_written _ _ _ _ c.loop-j.j c.loop-j.invariant (omega (arith, c.if-left-eq0.true, c.loop-j-test.false)))

pub overflow_cast-out-2 : goal.overflow_cast-out-2
overflow_cast-out-2 c =
    let part : c.low_bits-2.result * 2 ^ (8 - c.args.m % 8) ≡ byte_of (key_of_path c.args.offsets.now c.args.m) (c.args.m / 8) =
    byte_part c.args.offsets.now c.args.m (c.args.m / 8) (c.args.m - 8 * (c.args.m / 8)) c.requires.1 (omega arith) (omega arith) (omega arith) c.low_bits-2.result (8 - c.args.m % 8) c.low_bits-2.ensures (omega arith) in
    omega (arith, part, byte_lt (key_of_path c.args.offsets.now c.args.m) (c.args.m / 8))

pub bounds-out-whole : goal.bounds-out-whole
unfolding key_bytes started
bounds-out-whole c = omega (arith, c.requires.2, c.loop-j.auto.out, c.if-left-eq0.false)

pub returns : goal.returns
unfolding key_bytes started
returns c =
    let part : c.low_bits-2.result * 2 ^ (8 - c.args.m % 8) ≡ byte_of (key_of_path c.args.offsets.now c.args.m) (c.args.m / 8) =
    byte_part c.args.offsets.now c.args.m (c.args.m / 8) (c.args.m - 8 * (c.args.m / 8)) c.requires.1 (omega arith) (omega arith) (omega arith) c.low_bits-2.result (8 - c.args.m % 8) c.low_bits-2.ensures (omega arith) in
    let last : c.low_bits-2.result * 2 ^ (8 - c.args.m % 8) % 18446744073709551616 ≡ byte_of (key_of_path c.args.offsets.now c.args.m) (c.args.m / 8) =
    omega (arith, part, byte_lt (key_of_path c.args.offsets.now c.args.m) (c.args.m / 8)) in
    let at : c.loop-j.j ≡ c.args.m / 8 = omega arith in
    (omega (arith, c.if-left-eq0.false), all_written _ _ _ _ (c.args.m / 8 + 1) (written _ _ _ _ _ (omega (arith, c.requires.2, c.if-left-eq0.false)) (rw at at c.loop-j.invariant) last) (omega (arith, c.if-left-eq0.false)))
