use Rattle.std.proofs.Common.{◌≡◌, ℕ, suc, ◌+◌, ◌*◌, ◌/◌, ◌<◌, ◌≤◌, length, refl, sym, ap, ap₂, ◌∙◌, arith, add-one, below_more, get_or-set_same, get_or-set_other}
use Rattle.loes.specs.Bytes.{Bytes, tabulate, bits_in}
use Rattle.loes.specs.Edges.{ones, rank}
use Rattle.loes.specs.Prefixes.{roots, ends}
use Rattle.loes.specs.Held.{Holds}
use Rattle.loes.proofs.Ends.{ends_grow}
use Rattle.loes.proofs.Lists.{rank_le}
use Rattle.loes.proofs.Bits.{length_bits_in}
use Rattle.bits.proofs.Counts.{rank_bits}
use Rattle.build.proofs.Shape.{roots_le, held_ends, ends_le, enough, held_count}
use Rattle.build.proofs.level_ends.Invariants.{end_at}
use Rattle.build.proofs.level_ends.Goals as goal

-- the number that is written is the end of level d, which is not behind the last
next : (m b : ℕ) (l : Bytes) (d c n : ℕ) → Holds m b l → d < m → c ≡ roots b → n ≡ rank (bits_in l b) (end_at l b d)
    → (2 * (c + n) ≡ end_at l b (suc d)) × (2 * (c + n) ≤ b) × (end_at l b d ≤ 2 * (c + n))
unfolding ends
next m b l d c n h q e r =
    let same : 2 * (c + n) ≡ end_at l b (suc d) = ap₂ (λ x y. 2 * (x + y)) e r in
    (same, omega (arith, same, ends_le m b l h d q), omega (arith, same, ends_grow (roots b) (bits_in l b) d))

pub loop-place-init : goal.loop-place-init
unfolding ends rank bits_in tabulate ones
loop-place-init c = record { same = c.none-seen.ensures.0; seen = c.none-seen.ensures.1; rank = refl; written = λ j k. absurd (omega arith) }

pub overflow_add-end : goal.overflow_add-end
overflow_add-end c =
    let e = next (length c.args.ends.now) c.args.b c.args.edges.now c.loop-place.place-index c.roots_of-c.result c.loop-place.n c.requires.0 (omega arith) c.roots_of-c.ensures.0 c.loop-place.invariant.rank in
    omega (arith, c.requires.0.few)

pub overflow_mul-end : goal.overflow_mul-end
overflow_mul-end c =
    let e = next (length c.args.ends.now) c.args.b c.args.edges.now c.loop-place.place-index c.roots_of-c.result c.loop-place.n c.requires.0 (omega arith) c.roots_of-c.ensures.0 c.loop-place.invariant.rank in
    omega (arith, c.requires.0.few)

pub count_to-seen-requires : goal.count_to-seen-requires
count_to-seen-requires c =
    let e = next (length c.args.ends.now) c.args.b c.args.edges.now c.loop-place.place-index c.roots_of-c.result c.loop-place.n c.requires.0 (omega arith) c.roots_of-c.ensures.0 c.loop-place.invariant.rank in
    (omega (arith, c.loop-place.invariant.seen), omega (arith, c.requires.0.room, ap length c.loop-place.invariant.same))

pub ones_at-n-requires : goal.ones_at-n-requires
ones_at-n-requires c =
    let e = next (length c.args.ends.now) c.args.b c.args.edges.now c.loop-place.place-index c.roots_of-c.result c.loop-place.n c.requires.0 (omega arith) c.roots_of-c.ensures.0 c.loop-place.invariant.rank in
    (c.count_to-seen.ensures.1, omega (arith, c.requires.0.room, ap length (c.count_to-seen.ensures.0 ∙ c.loop-place.invariant.same)))

pub loop-place-preserved : goal.loop-place-preserved
loop-place-preserved c =
    let l = c.args.edges.now in
    let b = c.args.b in
    let d = c.loop-place.place-index in
    let e = next (length c.args.ends.now) b l d c.roots_of-c.result c.loop-place.n c.requires.0 (omega arith) c.roots_of-c.ensures.0 c.loop-place.invariant.rank in
    let same = c.count_to-seen.ensures.0 ∙ c.loop-place.invariant.same in
    let n : c.ones_at-n.result ≡ rank (bits_in l b) (end_at l b (suc d)) =
    c.ones_at-n.ensures ∙ ap₂ (λ x k. ones (bits_in x k)) same e.0 ∙ sym (rank_bits l b (end_at l b (suc d)) (omega arith)) in
    let more = add-one d in
    record {
      same = same;
      seen = rw more (c.count_to-seen.ensures.1 ∙ ap (λ k. k / 8) e.0);
      rank = rw more n;
      written =
          below_more _ _ (λ j h. get_or-set_other c.loop-place.ends d j (2 * (c.roots_of-c.result + c.loop-place.n)) 0 (λ z. absurd (omega (arith, z))) ∙ c.loop-place.invariant.written j h)
          (get_or-set_same c.loop-place.ends d (2 * (c.roots_of-c.result + c.loop-place.n)) 0 (omega arith) ∙ e.0);
    }

pub overflow_add-result : goal.overflow_add-result
overflow_add-result c =
    let l = c.args.edges.now in
    let b = c.args.b in
    let z : c.loop-place.place-index ≡ length c.args.ends.now = omega arith in
    omega (arith, c.loop-place.invariant.rank, (rank_le (bits_in l b) (end_at l b c.loop-place.place-index)).1, length_bits_in l b, roots_le b, c.roots_of-c.ensures.0, c.requires.0.few)

pub overflow_sub-result : goal.overflow_sub-result
overflow_sub-result c =
    let z : c.loop-place.place-index ≡ length c.args.ends.now = omega arith in
    rw c.roots_of-c.ensures.0 (enough (length c.args.ends.now) c.args.b c.args.edges.now c.requires.0 c.loop-place.n (rw z at c.loop-place.invariant.rank))

pub returns : goal.returns
returns c =
    let l = c.args.edges.now in
    let m = length c.args.ends.now in
    let z : c.loop-place.place-index ≡ m = omega arith in
    record {
      room = omega arith;
      levels = λ d q. c.loop-place.invariant.written d (omega arith) ∙ sym (held_ends m c.args.b l c.requires.0 d q);
      members = rw c.roots_of-c.ensures.0 (held_count m c.args.b l c.requires.0 c.loop-place.n (rw z at c.loop-place.invariant.rank));
    }
