use mir.Val.{bool_byte}
use Rattle.std.proofs.Common.{Bool, true, false, ◌≡◌, ◌≤◌, arith, ltb, refl}
use Rattle.loes.specs.Bytes.{bit}
use Rattle.loes.specs.Prefixes.{roots}
use Rattle.encoding.proofs.roots_of.Goals as goal

byte_of : (b : Bool) → (bool_byte b ≡ bit b) × (bool_byte b ≤ 1)
byte_of true = (refl, omega arith)
byte_of false = (refl, omega arith)

pub returns : goal.returns
unfolding roots
returns c = byte_of (ltb 0 c.args.bits)
