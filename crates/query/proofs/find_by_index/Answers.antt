use Prim.Native.Nat.{◌-◌}
use native.Mathlib.Omega.{arith}
use lib.ListN.{length-drop}
use Rattle.loes.specs.Entry.{edges_of, edge_count}
use Rattle.loes.specs.Read.{entry_in}
use Rattle.loes.proofs.Lists.{rest_is, ones_le}
use Rattle.encoding.proofs.Opened.{opens_room}
use Rattle.query.proofs.Index.{start_is, select_is}
use Rattle.query.proofs.find_by_index.Goals as goal

pub block_of-block-requires : goal.block_of-block-requires
unfolding edge_count
block_of-block-requires c = omega (arith, ones_le (edges_of (entry_in c.args.o.bytes.now)), c.requires.1, c.args.o.opens.bits)

pub slice_bounds-find_from-count : goal.slice_bounds-find_from-count
slice_bounds-find_from-count c = omega (arith, (opens_room _ _ c.args.o.opens).edges)

pub slice_bounds-find_from-start : goal.slice_bounds-find_from-start
slice_bounds-find_from-start c = omega (arith, (opens_room _ _ c.args.o.opens).edges)

pub find_from-requires : goal.find_from-requires
find_from-requires c =
    let p = rest_is c.args.o.bytes.now c.args.o.encoding.edges in
    let b = c.block_of-block.ensures in
    let s = c.sub_block_near-sub.ensures in
    let begins = start_is _ _ c.args.o.opens _ p (c.args.r.0 - 1) c.block_of-block.result c.sub_block_near-sub.result c.block_start.result c.sub_block_start.result s.0 s.1 c.block_start.ensures (omega (arith, c.block_start.ensures, b.1)) c.sub_block_start.ensures (omega (arith, c.sub_block_start.ensures, s.2)) in (
      rw p (omega (arith, (opens_room _ _ c.args.o.opens).bytes, length-drop c.args.o.encoding.edges c.args.o.bytes.now)),
      rw begins (select_is _ _ c.args.o.opens _ p _ c.requires.1).0,
    )

pub returns : goal.returns
returns c =
    let p = rest_is c.args.o.bytes.now c.args.o.encoding.edges in
    let b = c.block_of-block.ensures in
    let s = c.sub_block_near-sub.ensures in
    let begins = start_is _ _ c.args.o.opens _ p (c.args.r.0 - 1) c.block_of-block.result c.sub_block_near-sub.result c.block_start.result c.sub_block_start.result s.0 s.1 c.block_start.ensures (omega (arith, c.block_start.ensures, b.1)) c.sub_block_start.ensures (omega (arith, c.sub_block_start.ensures, s.2)) in
    rw (begins, p) at c.find_from.ensures
