use mathlib.Core.Path.{◌≡◌}
use Prim.Native.Nat.{ℕ}
use Rattle.loes.specs.Bytes.{pack_bits}
use Rattle.loes.specs.Keys.{KeySet}
use Rattle.loes.specs.Prefixes.{records_before}
use Rattle.pack.specs.Rising.{set_below}
use Rattle.pack.proofs.Marked.{marked_edges, split_at}
use Rattle.pack.proofs.Turn.{KeysCounted}
use Rattle.pack.specs.Batch.{key, members}
use Rattle.pack.proofs.mark_keys.Given as goal

abbrev pub base : ℕ → KeySet → ℕ → ℕ
base m s e = records_before e m s

-- so many keys have moved the cursors, and set their edges
abbrev pub invariant-loop-i : goal.invariant-loop-i
invariant-loop-i l = record {
  counted : KeysCounted l.top l.batch.width (base l.batch.width (members l.batch)) (key l.batch.width l.batch.bytes.now) l.i l.cursors;
  marked : l.edges ≡ pack_bits (marked_edges l.batch.width l.batch.width (members l.batch) (split_at l.top (set_below (key l.batch.width l.batch.bytes.now) l.i) (members l.batch)));
}
