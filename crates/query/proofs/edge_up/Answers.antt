use native.Mathlib.Omega.{arith}
use mathlib.Core.Path.{◌≡◌}
use Prim.Native.Nat.{◌+◌, ◌*◌, ◌-◌}
use Rattle.loes.specs.Entry.{edges_of}
use Rattle.loes.specs.Read.{entry_in}
use Rattle.bits.specs.Tables.{select}
use Rattle.encoding.proofs.Opened.{opens_valid, opens_room}
use Rattle.query.proofs.Ascent.{edge_few}
use Rattle.query.proofs.Index.{edge_in_byte}
use Rattle.query.proofs.edge_up.Goals as goal

pub overflow_mul-result : goal.overflow_mul-result
overflow_mul-result c = omega (arith, (edge_in_byte _ _ c.args.o.opens _ _ _ c.requires.1 c.find_edge-found.ensures).0, (opens_room _ _ c.args.o.opens).bytes)

pub place-requires : goal.place-requires
place-requires c = (edge_in_byte _ _ c.args.o.opens _ _ _ c.requires.1 c.find_edge-found.ensures).1

pub overflow_add-result : goal.overflow_add-result
overflow_add-result c =
    let offset : 8 * c.find_edge-found.result.byte + c.place.result ≡ select (edges_of (entry_in c.args.o.bytes.now)) (c.args.r.0 - 1) =
    rw c.place.ensures (edge_in_byte _ _ c.args.o.opens _ _ _ c.requires.1 c.find_edge-found.ensures).2 in
    omega (arith, offset, edge_few (entry_in c.args.o.bytes.now) (c.args.r.0 - 1) (opens_valid _ _ c.args.o.opens))

pub returns : goal.returns
returns c = rw c.place.ensures (edge_in_byte _ _ c.args.o.opens _ _ _ c.requires.1 c.find_edge-found.ensures).2
