-- Counts of levels and prefixes, in the specification's own words.
use mathlib.Core.Path.{◌≡◌, sym}
use Prim.Native.Nat.{ℕ, suc, ◌<◌}
use native.Mathlib.Omega.{arith}
use lib.ListN.{length}
use Rattle.loes.specs.Keys.{KeySet, members}
use Rattle.loes.specs.Edges.{level, record_bits, ones}
use Rattle.loes.proofs.Tree.{level_tree, ones_tree, length_tree, length_members}

pub ones_next : (d m : ℕ) (s : KeySet) → suc d < m → ones (record_bits (level d m s)) ≡ length (level (suc d) m s)
ones_next d m s h = rw (level_tree d m s (omega arith), level_tree (suc d) m s h, ones_tree) (sym (length_tree (suc d) m s h))

pub ones_last : (m : ℕ) (s : KeySet) → ones (record_bits (level m (suc m) s)) ≡ length (members (suc m) s)
ones_last m s = rw (level_tree m (suc m) s (omega arith), ones_tree) (sym (length_members (suc m) s))
