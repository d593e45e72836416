use Rattle.std.proofs.Common.{◌≤◌, length, refl, arith}
use lib.Seq.{take_all}
use Rattle.printing.specs.Text.{hex}
use Rattle.printing.proofs.Putting.{puts_none, puts_then}
use Rattle.printing.proofs.Digits.{hex_more, hex_room}
use Rattle.printing.proofs.put_key.Goals as goal

pub loop-byte-init : goal.loop-byte-init
unfolding hex
loop-byte-init c = let start : c.args.at ≤ length c.args.text.now = omega arith in puts_none _ _ _ start refl

pub put_byte-end-requires : goal.put_byte-end-requires
put_byte-end-requires c = omega (arith, hex_room c.loop-byte.byte-index c.args.key.now c.loop-byte-test.true, c.loop-byte.invariant.ends)

pub loop-byte-preserved : goal.loop-byte-preserved
loop-byte-preserved c = rw (hex_more c.loop-byte.byte-index c.args.key.now c.loop-byte-test.true) (puts_then c.loop-byte.invariant c.put_byte-end.ensures)

pub returns : goal.returns
returns c = let h : length c.args.key.now ≤ c.loop-byte.byte-index = omega arith in rw (take_all c.loop-byte.byte-index c.args.key.now h) at c.loop-byte.invariant
