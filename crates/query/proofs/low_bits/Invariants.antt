use mathlib.Core.Path.{◌≡◌}
use Rattle.loes.specs.Bytes.{bits_value}
use Rattle.loes.specs.Cursor.{key_of_path}
use Rattle.query.proofs.low_bits.Given as goal

abbrev pub invariant-loop-offset : goal.invariant-loop-offset
invariant-loop-offset l = l.bits ≡ bits_value (key_of_path l.offsets l.offset-index) 0
