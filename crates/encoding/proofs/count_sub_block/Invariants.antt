use Rattle.std.proofs.Common.{◌≡◌, ◌+◌, ◌*◌}
use lib.Count
use Rattle.loes.specs.Bytes.{bits_in}
use Rattle.loes.specs.Edges.{ones}
use Rattle.encoding.proofs.count_sub_block.Given as goal

-- the words before word i are counted, besides what is found once
abbrev pub invariant-loop-i : goal.invariant-loop-i
invariant-loop-i l = l.sum ≡ l.found + Count.ones l.rest + ones (bits_in l.edges (64 * l.i))
