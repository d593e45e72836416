use native.Mathlib.Omega.{arith}
use Rattle.records.proofs.Sealing.{cleared_none, cleared_more, sealed}
use Rattle.records.proofs.seal.Goals as goal

pub loop-i-init : goal.loop-i-init
loop-i-init c = record { cleared = cleared_none c.args.out.now c.args.k.0; bytes = λ j. omega (arith, c.type_inv.out j) }

pub loop-i-preserved : goal.loop-i-preserved
loop-i-preserved c = record {
  cleared = cleared_more (omega (arith, c.next_multiple_of-i-end.ensures.value)) c.loop-i.invariant.cleared c.put_record.ensures;
  bytes = λ j. omega (arith, c.type_inv.out j);
}

pub returns : goal.returns
returns c = sealed c.requires.0 (omega (arith, c.next_multiple_of-i-end.ensures.value)) c.loop-i.invariant.cleared c.loop-i.invariant.bytes
