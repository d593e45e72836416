-- The byte with each of its bits set
use Rattle.std.proofs.Common.{ℕ, ◌-◌, ◌^◌}
use Rattle.loes.specs.Bytes.{tabulate}
use Rattle.bits.proofs.Table.{computed}
use Rattle.bits.specs.Tables.{Table}
use Rattle.pack.specs.declared.TheConstants.{MASKS}

pub masks : Table (λ (k : ℕ). 2 ^ (7 - k)) 8 MASKS
unfolding tabulate
masks = computed (λ (k : ℕ). 2 ^ (7 - k)) 8
