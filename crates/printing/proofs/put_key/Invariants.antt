use Rattle.std.proofs.Common.{take}
use Rattle.printing.specs.Text.{hex, Puts}
use Rattle.printing.proofs.put_key.Given as goal

abbrev pub invariant-loop-byte : goal.invariant-loop-byte
invariant-loop-byte l = Puts l.at (hex (take l.byte-index l.key)) l.fn.text l.end l.text
