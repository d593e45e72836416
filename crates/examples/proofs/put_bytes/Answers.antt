use Rattle.std.proofs.Common.{◌≤◌, length, take, arith}
use lib.Seq.{length-take-le}
use Rattle.printing.proofs.Digits.{length_hex}
use Rattle.examples.proofs.put_bytes.Goals as goal

pub put_key-n-requires : goal.put_key-n-requires
put_key-n-requires g c = let k = c.min-k.result in let s = c.args.s.now in let shown : k ≤ length s = omega (arith, c.min-k.ensures) in omega (arith, length_hex (take k s), length-take-le k s shown, c.min-k.ensures)
