use mathlib.Core.Path.{ap, ◌∙◌}
use native.Mathlib.Omega.{arith}
use Rattle.loes.specs.Edges.{record_bits}
use Rattle.records.proofs.Codes.{bits_records_to}
use Rattle.records.proofs.Sealing.{written}
use Rattle.restrict.proofs.Compacting.{compact_count, compact_less}
use Rattle.restrict.proofs.collect.Goals as goal

pub seal-requires : goal.seal-requires
seal-requires c = let v = c.compact-k.ensures in
    (omega (arith, compact_count v, c.requires, v.size), omega (arith, compact_less v, c.requires))

pub overflow_mul-result : goal.overflow_mul-result
overflow_mul-result c = record { fits = omega (arith, compact_less c.compact-k.ensures, c.requires) }

pub returns : goal.returns
returns c = let v = c.compact-k.ensures in
    (written (bits_records_to c.compact-k.new.out c.compact-k.result.0 ∙ ap record_bits v.out) v.size c.seal.ensures, omega (arith, compact_less v))
