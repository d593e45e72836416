use mathlib.Core.Path.{ap, ◌∙◌}
use Prim.Native.Nat.{◌+◌, ◌*◌, ◌/◌, ◌%◌, ◌<◌}
use native.Mathlib.Omega.{arith}
use lib.Dec.{eqb}
use Rattle.loes.specs.Entry.{edges_of, edge_count}
use Rattle.loes.specs.Read.{entry_in}
use Rattle.query.proofs.BitLists.{set_below}
use Rattle.cursor.proofs.Checks.{turn_code, code_le}
use Rattle.cursor.proofs.turns_on.Goals as goal

pub record_at-record-requires : goal.record_at-record-requires
unfolding edge_count
record_at-record-requires c =
    let below : c.args.at.0 < c.args.o.encoding.bits = omega (arith, set_below (edges_of (entry_in c.args.o.bytes.now)) c.args.at.0 c.requires, c.args.o.opens.bits) in
    (omega (arith, below))

pub overflow_add-result : goal.overflow_add-result
overflow_add-result c = let a = c.args in omega (arith, c.record_at-record.ensures, code_le (edges_of (entry_in a.o.bytes.now)) (a.at.0 / 2))

pub returns : goal.returns
returns c = let a = c.args in
    ap (λ z. eqb (z + 4 * (a.at.0 % 2)) 3) c.record_at-record.ensures ∙ turn_code (edges_of (entry_in a.o.bytes.now)) a.at.0 c.requires
