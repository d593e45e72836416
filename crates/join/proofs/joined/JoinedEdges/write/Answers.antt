use mathlib.Core.Path.{sym, ap}
use native.Mathlib.Omega.{arith}
use Rattle.loes.specs.Held.{entry_held}
use Rattle.loes.specs.Model.{refusal}
use Rattle.loes.proofs.Writes.{writes_large}
use Rattle.build.specs.Writing.{written_outcome}
use Rattle.join.proofs.Joins.{joined_bits}
use Rattle.join.proofs.joined.JoinedEdges.write.Goals as goal

pub returns-then-self-gt-MAX_EDGES : goal.returns-then-self-gt-MAX_EDGES
unfolding written_outcome refusal
returns-then-self-gt-MAX_EDGES c =
    ap (λ x. x.outcome) (sym (writes_large (entry_held c.args.self.width c.args.self.bits c.args.self.bytes.now) c.args.out.now (omega (arith, joined_bits _ _ _ c.args.self.joined, c.if-self-gt-MAX_EDGES.true))))
