use Rattle.std.proofs.Common.{◌≡◌, ◌*◌, drop}
use Rattle.loes.specs.Bytes.{bits_in}
use Rattle.loes.specs.Edges.{ones}
use Rattle.bits.proofs.tally_bytes.Given as goal

abbrev pub invariant-loop-x : goal.invariant-loop-x
invariant-loop-x l = l.sum ≡ ones (bits_in (drop l.from l.l) (8 * l.x-index))
