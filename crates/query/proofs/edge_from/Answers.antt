use mathlib.Core.Path.{refl, ap}
use Prim.Native.Nat.{◌+◌, ◌*◌}
use Rattle.query.proofs.BitLists.{byte_bit}
use Rattle.query.specs.Descent.{edge_from}
use Rattle.query.proofs.edge_from.Goals.{then-at, else-at}
use Rattle.query.proofs.edge_from.Goals as goal

pub returns : goal.returns
unfolding edge_from
returns c = elim c.if-at.branch [
  | then-at w ↦ rw (w.if-at.true, c.from.ensures, w.from-is) (ap (λ x. 2 * c.args.at.record.0 + x) (byte_bit c.args.bit))
  | else-at w ↦ rw (c.from.ensures, w.from-is, w.if-at.false) refl
]
