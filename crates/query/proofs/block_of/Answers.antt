use native.Mathlib.Omega.{arith}
use Rattle.query.proofs.Index.{first_block}
use Rattle.loes.specs.Entry.{edges_of}
use Rattle.loes.specs.Read.{entry_in}
use Rattle.query.proofs.block_of.Goals as goal

pub loop-j-init : goal.loop-j-init
loop-j-init c = omega (arith, first_block (edges_of (entry_in c.args.o.bytes.now)))
