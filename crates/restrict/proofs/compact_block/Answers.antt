use mathlib.Core.Path.{sym, ap, ap₂, ◌∙◌}
use mathlib.Core.List.{◌++◌}
use lib.ListN.{get_or}
use Prim.Native.Nat.{◌+◌}
use Rattle.loes.specs.Keys.{those}
use Rattle.loes.proofs.Lists.{those_append}
use Rattle.records.specs.Records.{has_edge, records_to}
use Rattle.records.specs.Numbers.{records_of}
use Rattle.restrict.proofs.Compacting.{four_bytes}
use Rattle.restrict.proofs.compact_block.Goals as goal

pub returns : goal.returns
returns c = let q = c.args.q.now in
    let j = c.args.j in
    let e =
    c.followed_by-run.ensures.records
    ∙ ap₂ (λ x y. x ++ y) c.bytes_run-h.ensures.0 c.bytes_run-g.ensures.0
    ∙ sym (those_append has_edge (records_of 4 (get_or q j 0) ++ records_of 4 (get_or q (j + 1) 0)) (records_of 4 (get_or q (j + 2) 0) ++ records_of 4 (get_or q (j + 3) 0)))
    ∙ ap (those has_edge) (sym (four_bytes q j)) in
    rw c.count.ensures record { records = c.append.ensures.records ∙ ap (λ t. records_to c.args.out.now c.args.k.0 ++ t) e; size = c.append.ensures.size }
