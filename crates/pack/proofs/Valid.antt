-- A batch that passed its tests has an encoding
use mathlib.Core.Path.{◌≡◌}
use Prim.Native.Nat.{ℕ, ◌*◌}
use mathlib.Core.Option.{none}
use lib.ListN.{drop}
use Rattle.loes.specs.Bytes.{Bytes}
use Rattle.loes.specs.Entry.{key_bytes, Valid}
use Rattle.loes.specs.Refusals.{first_of}
use Rattle.loes.specs.Model.{batch_entry}
use Rattle.loes.proofs.Histories.{length_key}
use Rattle.pack.specs.Packing.{edge_tests}
use Rattle.pack.proofs.Grow.{below_wide}
use Rattle.pack.proofs.Batches.{Clean, clean, keys, set_is}
use Rattle.pack.specs.Batch.{key}

module _ (m : ℕ) (l : Bytes) (accepted : first_of (edge_tests m l) ≡ none) where
  passed : Clean m l
  passed = clean m l accepted

  pub batch_valid : Valid (batch_entry m l)
  unfolding batch_entry
  batch_valid =
      record {
        positive = passed.batch.positive;
        narrow = passed.batch.narrow;
        sized = λ k h. below_wide m (key m l) (λ i. length_key m (drop (key_bytes m * i) l)) (keys m l) k (rw (set_is m l) at h);
        few = passed.few;
      }
