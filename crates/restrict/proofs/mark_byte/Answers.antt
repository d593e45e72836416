use Prim.Native.Nat.{◌+◌, ◌/◌, ◌%◌}
use mathlib.Core.Path.{◌≡◌, ◌∙◌}
use native.Mathlib.Omega.{arith}
use Rattle.records.specs.Records.{record_at}
use Rattle.records.specs.Numbers.{records_of}
use Rattle.records.specs.Tables.{kept_by}
use Rattle.records.specs.Kinds.{number_of_kept}
use Rattle.restrict.specs.Restriction.{child_count, masked_at}
use Rattle.records.proofs.Numbers.{window_at}
use Rattle.restrict.proofs.Masking.{count_half, count_low, half_ok, byte_ok}
use Rattle.restrict.proofs.mark_byte.Goals as goal

pub four_in-requires-2 : goal.four_in-requires-2
four_in-requires-2 c =
    omega
    (arith, c.count_edges-n.ensures.0, count_low (c.args.x / 16) (omega arith), count_half (c.args.x / 16), count_low (c.args.x % 16) (omega arith), count_half (c.args.x % 16))

pub returns : goal.returns
returns c =
    let q = c.args.q.now in
    let w = number_of_kept c.args.kept in
    let d = c.args.d.0 in
    let n = c.count_edges-n.result in
    let high : n ≡ child_count (records_of 2 (c.args.x / 16)) = c.count_edges-n.ensures.0 ∙ count_low (c.args.x / 16) (omega arith) in
    let z : d + 0 ≡ d = omega arith in
    let ea : records_of 2 c.mark_half-a.result ≡ masked_at (λ m. kept_by w (record_at q m)) d (records_of 2 (c.args.x / 16)) =
    rw z at (half_ok q w (d + 0) (c.args.x / 16) c.mark_half-a.result c.four_in.result (c.four_in.ensures.0 ∙ window_at q d 0 c.window-v.result c.window-v.ensures (omega arith)) c.mark_half-a.ensures.0) in
    let eb : records_of 2 c.mark_half-b.result ≡ masked_at (λ m. kept_by w (record_at q m)) (d + n) (records_of 2 (c.args.x % 16)) =
    half_ok q w (d + n) (c.args.x % 16) c.mark_half-b.result c.four_in-2.result (c.four_in-2.ensures.0 ∙ window_at q d n c.window-v.result c.window-v.ensures (omega (arith, high, count_half (c.args.x / 16)))) c.mark_half-b.ensures.0 in
    byte_ok (λ m. kept_by w (record_at q m)) c.args.x d c.mark_half-a.result c.mark_half-b.result n high ea eb c.mark_half-b.ensures.1
