use mathlib.Core.Path.{refl}
use lib.ListN.{length-set}
use native.Mathlib.Omega.{arith}
use Rattle.join_tables.proofs.EdgedTable.{edged_start, edged_turn, edged_ruled}
use Rattle.join_tables.proofs.fill_edged.Goals as goal

pub loop-i-init : goal.loop-i-init
loop-i-init c = record { size = simp length-set (omega arith); filled = edged_start c.args.t.now (omega arith) }

pub loop-i-preserved : goal.loop-i-preserved
loop-i-preserved c = record {
  size = simp length-set (omega arith);
  filled = edged_turn c.loop-i.i _ _ c.loop-i.t (omega arith) (omega arith) c.loop-i.invariant.filled refl refl;
}

pub returns : goal.returns
returns c = edged_ruled c.loop-i.t c.loop-i.invariant.size (λ i a b. c.loop-i.invariant.filled i a (omega arith))
