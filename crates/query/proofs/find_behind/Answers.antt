use native.Mathlib.Omega.{arith}
use lib.ListN.{length-drop}
use Rattle.loes.specs.Entry.{edges_of, edge_count}
use Rattle.loes.specs.Read.{entry_in}
use Rattle.encoding.proofs.Opened.{opens_room}
use Rattle.loes.proofs.Lists.{rest_is, ones_le}
use Rattle.query.proofs.Index.{behind_in, behind_is, select_is}
use Rattle.query.proofs.find_behind.Goals as goal

pub overflow_add-o : goal.overflow_add-o
overflow_add-o c = omega (arith, behind_in _ _ c.args.o.opens _ _ c.requires, (opens_room _ _ c.args.o.opens).bytes)

pub tally_part-before-requires : goal.tally_part-before-requires
tally_part-before-requires c = (behind_in _ _ c.args.o.opens _ _ c.requires, omega arith)

pub slice_bounds-find_from-count : goal.slice_bounds-find_from-count
slice_bounds-find_from-count c = omega (arith, behind_in _ _ c.args.o.opens _ _ c.requires)

pub slice_bounds-find_from-start : goal.slice_bounds-find_from-start
slice_bounds-find_from-start c = omega (arith, behind_in _ _ c.args.o.opens _ _ c.requires)

pub overflow_add-first : goal.overflow_add-first
unfolding edge_count
overflow_add-first c = omega (arith, c.tally_part-before.ensures.1, c.requires, ones_le (edges_of (entry_in c.args.o.bytes.now)), c.args.o.opens.bits, (opens_room _ _ c.args.o.opens).few)

pub find_from-requires : goal.find_from-requires
find_from-requires c =
    let p = rest_is c.args.o.bytes.now c.args.o.encoding.edges in
    let begins = (behind_is _ _ c.args.o.opens _ p _ _ _ c.requires c.tally_part-before.ensures.0).1 in (
      rw p (omega (arith, (opens_room _ _ c.args.o.opens).bytes, length-drop c.args.o.encoding.edges c.args.o.bytes.now)),
      rw begins (select_is _ _ c.args.o.opens _ p _ c.requires).0,
    )

pub returns : goal.returns
returns c =
    let p = rest_is c.args.o.bytes.now c.args.o.encoding.edges in
    let begins = (behind_is _ _ c.args.o.opens _ p _ _ _ c.requires c.tally_part-before.ensures.0).1 in
    rw (begins, p) at c.find_from.ensures
