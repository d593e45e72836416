use mathlib.Core.Path.{◌≡◌, sym, ap, ◌∙◌}
use Prim.Native.Nat.{ℕ, suc, ◌-◌, ◌*◌}
use native.Mathlib.Omega.{arith}
use lib.ListN.{length, get_or, length-replicate}
use Rattle.loes.specs.Bytes.{started, pack_bits}
use Rattle.loes.specs.Prefixes.{records_before}
use Rattle.pack.specs.Rising.{set_below}
use Rattle.pack.proofs.Marked.{split_all}
use Rattle.pack.proofs.Pass.{mark_start}
use Rattle.pack.proofs.Levels.{from_is, level_marked, row_there, row_offset_lem}
use Rattle.pack.specs.Batch.{key, members, row_offset}
use Rattle.pack.proofs.mark_levels.Invariants.{from}
use Rattle.pack.proofs.mark_levels.Goals as goal

pub loop-e-init : goal.loop-e-init
loop-e-init c =
    let b = c.args.batch in
    let m = b.width in
    let f = key m b.bytes.now in
    record { behind = c.requires.1.most; marked = c.requires.0.clear ∙ sym (ap pack_bits (split_all m (members b) (set_below f 0) (members b)) ∙ mark_start m (members b) f) }

pub mark_level-requires : goal.mark_level-requires
mark_level-requires c =
    let b = c.args.batch in
    let long : length c.loop-e.edges ≡ started 8 (2 * records_before b.width b.width (members b)) = c.loop-e.auto.edges ∙ ap length c.requires.0.clear ∙ length-replicate _ 0 in
    row_there b c.args.starts.now c.requires.0.keys c.args.top c.requires.1 (c.loop-e.e - 1) (omega arith) (omega arith) c.loop-e.edges long

pub loop-e-preserved : goal.loop-e-preserved
loop-e-preserved c =
    let b = c.args.batch in
    let m = b.width in
    let e : ℕ = c.loop-e.e - 1 in
    let k = c.requires.0.keys in
    let starts = c.args.starts.now in
    let next : c.loop-e.e ≡ suc e = omega arith in
    record {
      behind = omega arith;
      marked =
          level_marked m b.count (key m b.bytes.now) k.rising e (row_offset b e (get_or starts e 0)) c.loop-e.edges c.mark_level.new.edges (omega arith)
          (row_offset_lem b starts k c.args.top c.requires.1 e (omega arith) (omega arith)) (c.loop-e.invariant.marked ∙ ap (from b) next) c.mark_level.ensures;
    }

pub returns : goal.returns
returns c =
    let b = c.args.batch in
    let z : c.loop-e.e ≡ c.args.top = omega (arith, c.loop-e.invariant.behind) in
    c.loop-e.invariant.marked ∙ ap (from b) z ∙ ap pack_bits (from_is c.args.top b.width (key b.width b.bytes.now) (members b) c.requires.1.most)
