use Prim.Native.Nat.{◌≤◌}
use native.Mathlib.Omega.{arith}
use lib.ListN.{length}
use borrow.Author.Rules.{rules}
use Rattle.loes.proofs.Lists.{rest_is}
use Rattle.encoding.proofs.Opened.{opens_room, opens_held, opens_holds}
use Rattle.join.proofs.Joins.{opens_over}
use Rattle.join.proofs.edge_bytes.Goals as goal

pub invariant_of-result : goal.invariant_of-result
invariant_of-result c =
    record {
      holds = rw (rest_is c.args.o.bytes.now c.args.o.encoding.edges) (opens_holds _ _ c.args.o.opens);
      behind = rw (rest_is c.args.o.bytes.now c.args.o.encoding.edges) (opens_over _ _ c.args.o.opens);
    }

pub returns-clause-held : goal.returns-clause-held
returns-clause-held c = rw (rest_is c.args.o.bytes.now c.args.o.encoding.edges) (opens_held _ _ c.args.o.opens)

pub slice_bounds-result-count : goal.slice_bounds-result-count
slice_bounds-result-count c = let r = (opens_room _ _ c.args.o.opens).edges in omega arith

pub slice_bounds-result-start : goal.slice_bounds-result-start
slice_bounds-result-start c = let r : c.args.o.encoding.edges ≤ length c.args.o.bytes.now = omega (arith, (opens_room _ _ c.args.o.opens).edges) in search rules
