use mathlib.Core.Bool.{true, false}
use Rattle.records.proofs.Codes.{push_ok, edge_code, no_edge_code}
use native.Mathlib.Omega.{arith}
use Rattle.records.proofs.push.Goals as goal

pub returns-then-z-gt0 : goal.returns-then-z-gt0
returns-then-z-gt0 c = push_ok c.args.out.now c.put_record.new.out c.args.n.0 c.args.z _ true c.put_record.ensures (edge_code c.args.z c.requires.1 c.if-z-gt0.true) (omega arith)

pub returns-else-z-gt0 : goal.returns-else-z-gt0
returns-else-z-gt0 c = push_ok c.args.out.now c.put_record.new.out c.args.n.0 c.args.z _ false c.put_record.ensures (no_edge_code c.args.z c.if-z-gt0.false) (omega arith)
