use native.Mathlib.Omega.{arith}
use Rattle.restrict.proofs.Compacting.{compact_none, compact_more, compact_count, compact_less, those_mono}
use Rattle.restrict.proofs.compact.Goals.{in-Some, in-None}
use Rattle.restrict.proofs.compact.Goals as goal

pub loop-i-init : goal.loop-i-init
loop-i-init c = elim c.match-edged.branch [
  | in-Some w ↦ rw (w.out-is, w.moved-is) w.compact_blocks-moved.ensures.0
  | in-None w ↦ rw (w.out-is, w.moved-is) compact_none
]

pub push-k-requires : goal.push-k-requires
push-k-requires c = let v = c.loop-i.invariant in
    (omega (arith, compact_count v, those_mono c.args.q.now c.loop-i.i c.args.r.0 (omega arith), v.size, c.requires), c.record_at-x.ensures.1, omega (arith, compact_less v, c.requires, c.loop-i-test.true))

pub loop-i-preserved : goal.loop-i-preserved
loop-i-preserved c = compact_more c.loop-i.invariant c.record_at-x.ensures.0 c.push-k.ensures
