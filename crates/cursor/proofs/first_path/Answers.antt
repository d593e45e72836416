use mathlib.Core.Path.{ap}
use native.Mathlib.Omega.{arith}
use Prim.Native.Nat.{ℕ, ◌/◌, ◌≤◌, ◌<◌}
use Rattle.loes.specs.Entry.{edge_count}
use Rattle.loes.specs.Read.{entry_in}
use Rattle.encoding.proofs.Opened.{opens_valid}
use Rattle.cursor.proofs.Outset.{first_start, first_room, first_next, first_end}
use Rattle.loes.specs.Bytes.{Bytes}
use Rattle.encoding.specs.Opened.{Opens}
use Rattle.encoding.specs.declared.Encoding.{Encoding}
use Rattle.cursor.proofs.first_path.Goals as goal

-- some edges, and room for a path, as the entry has them
some_edges : (l : Bytes) (e : Encoding) → Opens l e → 0 < e.bits → 0 < edge_count (entry_in l)
some_edges l e o h = omega (arith, h, o.bits)

path_room : (l : Bytes) (e : Encoding) (n : ℕ) → Opens l e → e.width ≤ n → (entry_in l).width ≤ n
path_room l e n o h = omega (arith, h, o.width)

pub loop-d-init : goal.loop-d-init
loop-d-init c =
    first_start _ (opens_valid _ _ c.args.o.opens) (some_edges _ _ c.args.o.opens c.requires.0) _ (path_room _ _ _ c.args.o.opens c.requires.1)

pub first_edge-requires : goal.first_edge-requires
first_edge-requires c =
    let z = (first_room _ (opens_valid _ _ c.args.o.opens) (some_edges _ _ c.args.o.opens c.requires.0) _ (path_room _ _ _ c.args.o.opens c.requires.1) _ _ _ c.loop-d.invariant (omega (arith, c.loop-d-test.true, c.args.o.opens.width))).0 in (omega (arith, z, c.args.o.opens.bits))

pub loop-d-preserved : goal.loop-d-preserved
loop-d-preserved c =
    first_next _ (opens_valid _ _ c.args.o.opens) (some_edges _ _ c.args.o.opens c.requires.0) _ (path_room _ _ _ c.args.o.opens c.requires.1) _ _ _ c.loop-d.invariant (omega (arith, c.loop-d-test.true, c.args.o.opens.width)) _ _ c.first_edge.ensures (ap (λ x. x / 2) c.level_end-record.ensures)

pub returns : goal.returns
returns c =
    first_end _ (opens_valid _ _ c.args.o.opens) (some_edges _ _ c.args.o.opens c.requires.0) _ (path_room _ _ _ c.args.o.opens c.requires.1) _ _ _ c.loop-d.invariant (omega (arith, c.loop-d-test.false, c.args.o.opens.width))
