use Prim.Native.Nat.{ℕ}
use lib.ListN.{length-replicate, get_or-replicate}
use Rattle.pack.proofs.no_records.Goals as goal

pub returns : goal.returns
returns c = record { long = length-replicate {A = ℕ} 256 0; zero = λ e h. get_or-replicate 256 e 0 0 h }
