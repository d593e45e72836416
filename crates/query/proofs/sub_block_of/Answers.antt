use native.Mathlib.Omega.{arith}
use Prim.Native.Nat.{◌*◌}
use Rattle.loes.specs.Limits.{sub_blocks}
use Rattle.encoding.proofs.Opened.{opens_room}
use Rattle.loes.specs.Entry.{edges_of}
use Rattle.loes.specs.Read.{entry_in}
use Rattle.encoding.proofs.Pass.{sub_block_first}
use Rattle.query.proofs.sub_block_of.Goals as goal

pub loop-low-init : goal.loop-low-init
loop-low-init c = ((omega arith, omega arith, omega arith), omega (arith, c.requires), omega (arith, sub_block_first (edges_of (entry_in c.args.o.bytes.now)) (sub_blocks * c.args.block) (omega arith)), λ h. absurd (omega arith))

pub begins_by-requires : goal.begins_by-requires
begins_by-requires c = omega (arith, (opens_room _ _ c.args.o.opens).few, c.requires)
