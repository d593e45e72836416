use Prim.Native.Nat.{◌≤◌}
use Rattle.loes.specs.Encode.{block_ones}
use Rattle.loes.specs.Entry.{edges_of}
use Rattle.loes.specs.Read.{entry_in}
use Rattle.query.proofs.block_of.Given as goal

abbrev pub invariant-loop-j : goal.invariant-loop-j
invariant-loop-j l = block_ones (edges_of (entry_in l.o.bytes.now)) l.j ≤ l.k
