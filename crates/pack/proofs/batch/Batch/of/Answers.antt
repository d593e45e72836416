use mathlib.Core.Path.{◌≡◌, ap, ◌∙◌}
use Prim.Native.Nat.{◌%◌}
use native.Mathlib.Omega.{arith}
use lib.ListN.{length}
use Rattle.loes.specs.Bytes.{started}
use Rattle.loes.specs.Entry.{key_bytes}
use native.Mathlib.Nat.{div-add-mod}
use Rattle.pack.proofs.batch.Batch.of.Goals as goal

pub nonzero_div-result : goal.nonzero_div-result
unfolding key_bytes started
nonzero_div-result c = omega arith

pub invariant_of-result : goal.invariant_of-result
unfolding key_bytes
invariant_of-result c =
    let t = c.bytes_for-size in
    let l = c.args.bytes.now in
    let even : length l % t.result ≡ 0 = ap (λ k. length l % k) t.ensures.0 ∙ c.requires.2 in
    record {
      whole = record {
        positive = c.requires.0;
        narrow = c.requires.1;
        size = t.ensures.0;
        whole = omega (arith, div-add-mod (length l) t.result, even);
      };
    }
