use mathlib.Core.Path.{◌≡◌, sym, ap, ◌∙◌}
use Prim.Native.Nat.{suc, ◌*◌, ◌≤◌}
use native.Mathlib.Omega.{arith}
use lib.ListN.{length}
use Rattle.loes.specs.Bytes.{started, pack_bits}
use Rattle.loes.specs.Prefixes.{records_before}
use Rattle.loes.proofs.Bytes.{length_packed}
use Rattle.pack.specs.Rising.{set_below}
use Rattle.pack.proofs.Marked.{marked_edges, length_edges, split_at, split_same}
use Rattle.pack.proofs.Pass.{mark_end}
use Rattle.pack.proofs.Turn.{none_yet, counted_more, room_mark, marks}
use Rattle.pack.proofs.Levels.{from_is, new_top}
use Rattle.pack.specs.Batch.{key, members}
use Rattle.pack.proofs.Places.{in_at, length_at}
use Rattle.pack.proofs.mark_keys.Invariants.{base}
use Rattle.loes.specs.Model.{key_in}
use Rattle.loes.specs.Entry.{key_bytes}
use Rattle.pack.proofs.mark_keys.Goals as goal

pub loop-i-init : goal.loop-i-init
loop-i-init c =
    let b = c.args.batch in
    let f = key b.width b.bytes.now in
    let r = c.requires.markable in
    record {
      counted = none_yet c.args.top b.width (base b.width (members b)) f c.args.cursors.now (λ e h. r.0.starts e (omega (arith, r.1.most)));
      marked = c.requires.edges_value ∙ sym (ap pack_bits (from_is c.args.top b.width f (members b) r.1.most));
    }

pub mark_key-requires : goal.mark_key-requires
mark_key-requires c =
    let b = c.args.batch in
    let m = b.width in
    let i = c.loop-i.i in
    let f = key m b.bytes.now in
    let k = c.requires.markable.0 in
    let apart = c.requires.markable.1 in
    let all = members b in
    let marks = marked_edges m m all (split_at c.args.top (set_below f i) all) in
    let long : length c.loop-i.edges ≡ started 8 (2 * records_before m m all) =
    ap length c.loop-i.invariant.marked ∙ length_packed marks ∙ ap (started 8) (length_edges m m all (split_at c.args.top (set_below f i) all) (omega arith)) in
    let same : key_in m c.key.result.now ≡ f i = ap (key_in m) c.key.ensures ∙ in_at b i in
    let far : key_bytes m ≤ length c.key.result.now = omega (arith, ap length c.key.ensures, length_at b i (omega arith), b.whole.size) in
    room_mark m b.count f k.rising c.args.top i c.first_new.result c.loop-i.cursors apart.most (omega arith) c.loop-i.invariant.counted c.first_new.ensures c.key.result.now c.loop-i.edges same far (omega (arith, k.long)) k.few long

pub loop-i-preserved : goal.loop-i-preserved
loop-i-preserved c =
    let b = c.args.batch in
    let m = b.width in
    let i = c.loop-i.i in
    let f = key m b.bytes.now in
    let k = c.requires.markable.0 in
    let apart = c.requires.markable.1 in
    let all = members b in
    let same : key_in m c.key.result.now ≡ f i = ap (key_in m) c.key.ensures ∙ in_at b i in
    let new : c.first_new.result ≤ suc c.args.top = omega (arith, c.first_new.ensures, new_top b c.args.cursors.now k c.args.top apart i (omega arith)) in
    record {
      counted = counted_more m b.count (base m all) f k.rising c.args.top i c.first_new.result c.loop-i.cursors c.mark_key.new.cursors apart.most (omega arith) c.first_new.ensures c.mark_key.ensures.moved c.loop-i.invariant.counted;
      marked = marks m b.count f k.rising c.args.top i c.first_new.result c.loop-i.cursors apart.most (omega arith) c.loop-i.invariant.counted c.first_new.ensures c.key.result.now c.loop-i.edges c.mark_key.new.edges all same new c.loop-i.invariant.marked c.mark_key.ensures.set;
    }

pub returns : goal.returns
returns c =
    let b = c.args.batch in
    let m = b.width in
    let all = members b in
    let z : c.loop-i.i ≡ b.count = omega arith in
    c.loop-i.invariant.marked ∙ ap (λ i. pack_bits (marked_edges m m all (split_at c.args.top (set_below (key m b.bytes.now) i) all))) z ∙ ap pack_bits (split_same m c.args.top all all) ∙ mark_end m all
