use mathlib.Core.Path.{◌∙◌}
use Prim.Native.Nat.{◌+◌, ◌/◌, ◌<◌, ◌≤◌}
use native.Mathlib.Omega.{arith}
use lib.ListN.{length}
use Rattle.loes.specs.Bytes.{started}
use Rattle.records.specs.Records.{code_in}
use Rattle.encoding.proofs.Opened.{opens_room}
use Rattle.cursor.proofs.Checks.{code_at}
use Rattle.cursor.proofs.record_at.Goals as goal

pub overflow_add-o : goal.overflow_add-o
unfolding started
overflow_add-o c =
    let inside : (c.args.o.encoding.edges + c.args.r.0 / 4 < length c.args.o.bytes.now) × (length c.args.o.bytes.now ≤ 68695) = let r = opens_room c.args.o.bytes.now c.args.o.encoding c.args.o.opens in (omega (arith, r.edges, c.requires), r.bytes) in
    omega (arith, inside)

pub bounds-o-o : goal.bounds-o-o
unfolding started
bounds-o-o c =
    let inside : (c.args.o.encoding.edges + c.args.r.0 / 4 < length c.args.o.bytes.now) × (length c.args.o.bytes.now ≤ 68695) = let r = opens_room c.args.o.bytes.now c.args.o.encoding c.args.o.opens in (omega (arith, r.edges, c.requires), r.bytes) in
    inside.0

pub returns : goal.returns
unfolding code_in
returns c = c.record_in.ensures.0 ∙ code_at c.args.o.bytes.now c.args.o.encoding c.args.r.0 c.args.o.opens c.requires
