use native.Mathlib.Omega.{arith}
use Rattle.loes.specs.Bytes.{started}
use Rattle.loes.specs.Entry.{key_bytes}
use Rattle.encoding.proofs.Opened.{opens_valid}
use Rattle.query.proofs.Ascent.{path_long}
use Rattle.query.proofs.Readings.{index_past, key_short, key_written}
use Rattle.query.proofs.key_at_in.Goals as goal

pub returns-then-o-i : goal.returns-then-o-i
returns-then-o-i c = index_past _ _ _ (omega (arith, c.if-o-i.true, c.args.o.opens.count))

pub bytes_for-requires : goal.bytes_for-requires
bytes_for-requires c = omega (arith, (opens_valid _ _ c.args.o.opens).narrow, c.args.o.opens.width)

pub returns-then-out-bytes_for : goal.returns-then-out-bytes_for
unfolding key_bytes started
returns-then-out-bytes_for c = key_short _ _ _ (omega (arith, c.if-o-i.false, c.args.o.opens.count)) (omega (arith, c.if-out-bytes_for.true, c.bytes_for.ensures.0, c.args.o.opens.width))

pub path_at-requires : goal.path_at-requires
path_at-requires c = (c.if-o-i.false, omega (arith, (opens_valid _ _ c.args.o.opens).narrow, c.args.o.opens.width))

pub write_key-requires : goal.write_key-requires
unfolding key_bytes started
write_key-requires c =
    let b = c.bytes_for.ensures.0 in
    let q = c.path_at.ensures in
    let w = c.args.o.opens.width in
    let z = path_long _ (opens_valid _ _ c.args.o.opens) c.args.i.0 (omega (arith, c.if-o-i.false, c.args.o.opens.count)) _ in
    (omega (arith, (opens_valid _ _ c.args.o.opens).narrow, w), rw (q, w) z, omega (arith, b, c.if-out-bytes_for.false))

pub returns : goal.returns
unfolding key_bytes started
returns c =
    let b = c.bytes_for.ensures.0 in
    let w = c.write_key.ensures in
    key_written _ _ _ (omega (arith, c.if-o-i.false, c.args.o.opens.count)) (opens_valid _ _ c.args.o.opens) _ _ _ _ _ c.args.o.opens.width c.path_at.ensures w.0 w.1 (omega (arith, b, c.if-out-bytes_for.false))
