use mathlib.Core.Path.{◌≡◌}
use Prim.Native.Nat.{ℕ, ◌+◌, ◌-◌, ◌<◌, ◌≤◌}
use lib.Dec.{leb}
use lib.ListN.{get_or}
use Rattle.loes.specs.Bytes.{bit}
use Rattle.pack.specs.Marking.{set_bits, offset_of}
use Rattle.pack.proofs.mark_key.Given as goal

-- the cursors before level e have moved, the others have not, and the edges of the levels before it are set
abbrev pub invariant-loop-e : goal.invariant-loop-e
invariant-loop-e l = record {
  moved : (x : ℕ) → x < l.e → get_or l.cursors x 0 ≡ get_or l.initial.cursors x 0 + bit (leb l.new x);
  same : (x : ℕ) → l.e ≤ x → get_or l.cursors x 0 ≡ get_or l.initial.cursors x 0;
  set : l.edges ≡ set_bits (offset_of l.initial.cursors l.new l.key) l.new (l.e - l.new) l.initial.edges;
}
