use native.Mathlib.Omega.{arith}
use Rattle.loes.specs.Bytes.{started}
use Rattle.loes.specs.Entry.{key_bytes, Valid}
use Rattle.loes.specs.Read.{entry_in}
use Rattle.loes.proofs.Cursors.{right_parts}
use Rattle.encoding.proofs.Opened.{opens_valid, opens_room}
use Rattle.cursor.proofs.Stepping.{at_set, at_last, at_short, at_movable, at_next}
use Rattle.cursor.proofs.step_at.Goals as goal

pub turn_level-requires : goal.turn_level-requires
turn_level-requires c =
    let valid : Valid (entry_in c.args.o.bytes.now) = opens_valid _ _ c.args.o.opens in
    let z = at_set _ valid _ c.requires _ _ c.args.o.opens.width c.args.o.opens.bits in (z.0, z.1)

pub returns-in_default : goal.returns-in_default
returns-in_default c =
    let valid : Valid (entry_in c.args.o.bytes.now) = opens_valid _ _ c.args.o.opens in
    at_last _ valid _ c.requires _ _ c.args.o.opens.width c.args.o.opens.bits c.in_default.ensures _ _ (c.fill.ensures.after (λ y h. h))

pub bytes_for-requires : goal.bytes_for-requires
bytes_for-requires c = omega (arith, (opens_room _ _ c.args.o.opens).narrow)

pub returns-then-out-bytes_for : goal.returns-then-out-bytes_for
unfolding key_bytes started
returns-then-out-bytes_for c =
    let valid : Valid (entry_in c.args.o.bytes.now) = opens_valid _ _ c.args.o.opens in
    at_short _ valid _ c.requires _ _ c.args.o.opens.width c.args.o.opens.bits _ c.in-Some.ensures _ (omega (arith, c.bytes_for.ensures.0, c.if-out-bytes_for.true))

pub move_on-requires : goal.move_on-requires
move_on-requires c =
    let valid : Valid (entry_in c.args.o.bytes.now) = opens_valid _ _ c.args.o.opens in
    (at_movable _ valid _ c.requires _ _ c.args.o.opens.width c.args.o.opens.bits _ c.in-Some.ensures)

pub write_key-requires : goal.write_key-requires
unfolding key_bytes started
write_key-requires c = let n = (opens_room _ _ c.args.o.opens).narrow in
    (n, omega (arith, n, c.move_on.ensures.size, (right_parts _ _ c.requires).0), omega (arith, c.bytes_for.ensures.0, c.if-out-bytes_for.false))

pub returns : goal.returns
unfolding key_bytes started
returns c =
    let valid : Valid (entry_in c.args.o.bytes.now) = opens_valid _ _ c.args.o.opens in
    let b = c.bytes_for.ensures.0 in
    let w = c.write_key.ensures in
    at_next _ valid _ c.requires _ _ c.args.o.opens.width c.args.o.opens.bits _ c.in-Some.ensures _ _ _ _ c.move_on.ensures (omega (arith, b, c.if-out-bytes_for.false)) w.0 w.1
