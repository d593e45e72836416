use mathlib.Core.Path.{◌≡◌, ap, ◌∙◌}
use Prim.Native.Nat.{ℕ, ◌+◌, ◌-◌, ◌*◌, ◌/◌, ◌%◌, ◌≤◌, ◌<◌}
use native.Mathlib.Omega.{arith}
use lib.ListN.{length, get_or}
use Rattle.records.specs.Records.{empty_record, record_at, records_at}
use Rattle.records.specs.Numbers.{records_of}
use Rattle.restrict.proofs.Singles.{record_in}
use Rattle.restrict.proofs.has_singles.Goals as goal

pub returns-then-c-q : goal.returns-then-c-q
returns-then-c-q c =
    let q = c.args.q.now in
    let i = c.args.i.0 in
    let b : (i % 16 ≡ 0) × (16 ≤ i) × (c.args.c.0 ≤ c.args.r.0) × (i + 16 ≤ c.args.c.0) × (c.args.c.0 / 4 < length q) = grind arith in
    λ h. record {
      block = b.1;
      whole = omega arith;
      records = b.2;
      behind = b.3;
      queue = b.4;
      single = λ k l g.
          let t : ℕ = k + 16 - i in
          let z : i - 16 + t ≡ k = omega arith in
          let y : 4 * ((i - 16) / 4) ≡ i - 16 = omega arith in
          let e : get_or (records_of 16 c.block.result) t empty_record ≡ record_at q k =
          ap (λ l. get_or l t empty_record) (c.block.ensures.0 ∙ ap (λ o. records_at q o 16) y) ∙ record_in q (i - 16) 16 t (omega arith) ∙ ap (record_at q) z in
          rw e at (c.no_double.ensures h t (omega arith));
    }
