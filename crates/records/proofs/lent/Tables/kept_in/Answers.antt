use mathlib.Core.Path.{◌≡◌}
use Prim.Native.Nat.{ℕ, ◌+◌, ◌*◌, ◌/◌, ◌%◌, ◌^◌, ◌<◌}
use mathlib.Core.List.{List, map}
use lib.ListN.{get_or}
use denote.Enum.Declared.{tag_of}
use native.Mathlib.Omega.{arith}
use Rattle.records.specs.declared.kinds.Kept.{Kept}
use Rattle.records.specs.declared.kinds.Kept.TheVariants.{Edged, FirstOnly, SecondOnly, Both}
use Rattle.records.specs.contracts.kinds.Kept.{the_type}
use Rattle.records.specs.Kinds.{number_of_kept}
use Rattle.records.specs.Numbers.{records_of, bits_of}
use Rattle.records.specs.Tables.{kept_by, Parted}
use Rattle.records.proofs.Lookups.{kept_told}
use Rattle.records.proofs.lent.Tables.kept_in.Goals as goal

kept_of : {t : List ℕ} → Parted t → (x : ℕ) → x < 256 → (k : Kept) → bits_of 4 (get_or t x 0 / 2 ^ (16 + 4 * tag_of the_type k) % 16) ≡ map (kept_by (number_of_kept k)) (records_of 4 x)
kept_of p x h Edged = kept_told p x h 0 (omega arith)
kept_of p x h FirstOnly = kept_told p x h 1 (omega arith)
kept_of p x h SecondOnly = kept_told p x h 2 (omega arith)
kept_of p x h Both = kept_told p x h 3 (omega arith)

pub returns : goal.returns
returns c = (kept_of c.args.self.parted c.args.x c.requires c.args.kept, omega arith)
