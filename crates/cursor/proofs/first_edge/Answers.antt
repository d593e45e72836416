use mathlib.Core.Path.{ap, ◌∙◌}
use Prim.Native.Nat.{◌+◌, ◌-◌, ◌*◌, ◌/◌}
use native.Mathlib.Omega.{arith}
use Rattle.loes.specs.Entry.{edges_of}
use Rattle.loes.specs.Read.{entry_in}
use Rattle.cursor.proofs.Checks.{first_code, code_le}
use Rattle.cursor.proofs.first_edge.Goals as goal

pub overflow_sub-result : goal.overflow_sub-result
overflow_sub-result c = let a = c.args in omega (arith, c.record_at-record.ensures, code_le (edges_of (entry_in a.o.bytes.now)) a.r.0)

pub returns : goal.returns
returns c = let a = c.args in ap (λ z. 2 * a.r.0 + (1 - z / 2)) c.record_at-record.ensures ∙ first_code (edges_of (entry_in a.o.bytes.now)) a.r.0
