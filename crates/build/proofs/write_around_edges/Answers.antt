use Rattle.std.proofs.Common.{◌≡◌, ℕ, ◌/◌, ◌≤◌, List, length, take, drop, length-take, sym, ap, ap₂, ◌∙◌, arith}
use lib.Seq.{length-take-le}
use Rattle.loes.specs.Limits.{max_edges}
use Rattle.loes.specs.Bytes.{Bytes, front}
use Rattle.loes.specs.Read.{edge_bytes, body_at, start4, start5, start6, end_of}
use Rattle.loes.specs.Held.{Holds}
use Rattle.build.specs.Writing.{HoldsOnly, Shaped, standing, shape, indexed}
use Rattle.build.proofs.Front.{two_parts}
use Rattle.build.proofs.Fields.{sealed_small, shape_length, held_encode}
use Rattle.build.proofs.Standing.{edges_end}
use Rattle.build.proofs.write_around_edges.Goals as goal

-- the edges that stand in their place are the first bytes behind it
stand : (m b at len : ℕ) (xs ys : Bytes) → at ≡ body_at (start4 m) → len ≡ edge_bytes b → ys ≡ drop at xs → take len ys ≡ standing m b xs
unfolding standing
stand m b at len xs ys place size rest = ap₂ take size (rest ∙ ap (λ n. drop n xs) place)

pub split_at_mut-before-requires : goal.split_at_mut-before-requires
split_at_mut-before-requires c = omega (arith, edges_end c.args.m c.args.b)

-- what the first pass is lent
lent : (m b len : ℕ) (room : List ℕ) (l xs ys : Bytes) → m ≤ length room → HoldsOnly m b l → take len ys ≡ l
    → Holds (length (take m room)) b (take len ys) × (length (take len ys) ≤ max_edges / 8)
lent m b len room l xs ys h s e = rw (e, length-take-le m room h) (s.holds, sealed_small m b l s)

pub slice_bounds-level_ends-end : goal.slice_bounds-level_ends-end
slice_bounds-level_ends-end c = omega (arith, edges_end c.args.m c.args.b, c.split_at_mut-before.ensures.back_len)

pub slice_bounds-level_ends-end-2 : goal.slice_bounds-level_ends-end-2
slice_bounds-level_ends-end-2 c = omega (arith, edges_end c.args.m c.args.b, c.split_at_mut-before.ensures.back_len, length-take c.bytes_for.result c.split_at_mut-before.result.1.now)

pub level_ends-count-requires : goal.level_ends-count-requires
level_ends-count-requires c =
    let there = stand c.args.m c.args.b c.edges_start.result c.bytes_for.result c.args.out.now c.split_at_mut-before.result.1.now c.edges_start.ensures c.bytes_for.ensures.0 c.split_at_mut-before.ensures.back in
    lent c.args.m c.args.b c.bytes_for.result _ (standing c.args.m c.args.b c.args.out.now) c.args.out.now c.split_at_mut-before.result.1.now (omega (arith, c.requires.1.holds.narrow)) c.requires.1 there

pub put_shape-requires : goal.put_shape-requires
unfolding start4
put_shape-requires c =
    let size : length c.level_ends-count.new.ends ≡ c.args.m = c.level_ends-count.auto.ends ∙ length-take-le c.args.m _ (omega (arith, c.requires.1.holds.narrow)) in
    (omega (arith, size, c.split_at_mut-before.ensures.front_len, c.edges_start.ensures), omega (arith, size, c.requires.1.holds.narrow), c.requires.1.holds.few)

pub put_index-requires : goal.put_index-requires
unfolding end_of start6 start5
put_index-requires c = (omega (arith, c.split_at_mut-before.ensures.back_len), c.requires.1.holds.few)

-- and what it answers, of the edges that stand there
known : (m b len n : ℕ) (room ends l ys : List ℕ) → m ≤ length room → take len ys ≡ l → Shaped (length (take m room)) b (take len ys) ends n → Shaped m b l ends n
known m b len n room ends l ys h e s = rw (e, length-take-le m room h) at s

pub returns : goal.returns
returns c =
    let m = c.args.m in
    let b = c.args.b in
    let xs = c.args.out.now in
    let l = standing m b xs in
    let x = c.split_at_mut-before.result.0.now in
    let y = c.split_at_mut-before.result.1.now in
    let ends = c.level_ends-count.new.ends in
    let n = c.level_ends-count.result in
    let holds : HoldsOnly m b l = c.requires.1 in
    let size : length ends ≡ m = c.level_ends-count.auto.ends ∙ length-take-le m _ (omega (arith, holds.holds.narrow)) in
    let there : take c.bytes_for.result y ≡ l = stand m b c.edges_start.result c.bytes_for.result xs y c.edges_start.ensures c.bytes_for.ensures.0 c.split_at_mut-before.ensures.back in
    let shaped = known m b c.bytes_for.result n _ ends l y (omega (arith, holds.holds.narrow)) there c.level_ends-count.ensures in
    let full : length (shape b n ends) ≡ length x = omega (arith, shape_length b n ends, c.split_at_mut-before.ensures.front_len, c.edges_start.ensures, ap (λ k. body_at (start4 k)) size) in
    let index : c.put_index.new.out ≡ front (indexed b l) y = c.put_index.ensures ∙ ap (λ k. front (indexed b (take k y)) y) (sym c.bytes_for.ensures.0) ∙ ap (λ k. front (indexed b k) y) there in
    two_parts x y (shape b n ends) (indexed b l) xs c.put_shape.new.out c.put_index.new.out c.split_at_mut-before.ensures.value full c.put_shape.ensures index
    ∙ ap (λ k. front k xs) (held_encode m b l holds ends n size shaped)
