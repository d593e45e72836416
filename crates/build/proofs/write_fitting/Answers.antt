use Rattle.std.proofs.Common.{◌≡◌, ℕ, ◌+◌, ◌-◌, ◌≤◌, length, refl, ap, ◌∙◌, rules, arith}
use borrow.Rule.Slice.PartMut.{put_mid}
use Rattle.loes.specs.Bytes.{Bytes, started, front}
use Rattle.loes.specs.Encode.{encode}
use Rattle.loes.specs.Read.{body_at, start4, end_of}
use Rattle.loes.specs.Held.{entry_held}
use Rattle.build.specs.Writing.{HoldsOnly, standing}
use Rattle.build.proofs.Shape.{held_bits}
use Rattle.build.proofs.Fields.{sealed_length, held_length}
use Rattle.build.proofs.Standing.{edges_end, stands, length_put, covered}
use Rattle.build.proofs.write_fitting.Goals as goal

-- there is room for the edges
fits : (m b at : ℕ) (l xs : Bytes) → at ≡ body_at (start4 m) → HoldsOnly m b l → end_of m b ≤ length xs → at + length l ≤ length xs
fits m b at l xs place s room = omega (arith, edges_end m b, sealed_length m b l s)

-- the edges are in their place
module _ (m b at k : ℕ) (l xs ys : Bytes) (place : at ≡ body_at (start4 m)) (s : HoldsOnly m b l) (room : end_of m b ≤ length xs) (size : k ≡ at + length l - at) (copied : ys ≡ l) where
  whole : k ≡ started 8 b
  whole = omega (arith, sealed_length m b l s)

  long : length ys ≡ k
  long = omega (arith, ap length copied)

  there : standing m b (put_mid at k xs ys) ≡ l
  there = stands m b at k xs ys place whole long room ∙ copied

  same : length (put_mid at k xs ys) ≡ length xs
  same = length_put m b at k xs ys place whole long room

  over : front (encode (entry_held m b l)) (put_mid at k xs ys) ≡ front (encode (entry_held m b l)) xs
  over = covered m b at k xs ys place whole long room (encode (entry_held m b l)) (held_length m b l (held_bits m b l s.holds))

pub overflow_add-at : goal.overflow_add-at
overflow_add-at c = omega (arith, fits c.args.m c.args.b c.edges_start-at.result c.args.edges.now c.args.out.now c.edges_start-at.ensures c.requires.1 c.requires.0)

pub slice_bounds-copy_from_slice-end : goal.slice_bounds-copy_from_slice-end
slice_bounds-copy_from_slice-end c =
    let f = fits c.args.m c.args.b c.edges_start-at.result c.args.edges.now c.args.out.now c.edges_start-at.ensures c.requires.1 c.requires.0 in search rules

pub write_around_edges-requires : goal.write_around_edges-requires
write_around_edges-requires c =
    let at = c.edges_start-at.result in
    let l = c.args.edges.now in
    let k : ℕ = at + length l - at in
    let h = same c.args.m c.args.b at k l c.args.out.now c.copy_from_slice.new.self c.edges_start-at.ensures c.requires.1 c.requires.0 refl c.copy_from_slice.ensures.after in
    let e = there c.args.m c.args.b at k l c.args.out.now c.copy_from_slice.new.self c.edges_start-at.ensures c.requires.1 c.requires.0 refl c.copy_from_slice.ensures.after in
    (omega (arith, h), rw e c.requires.1)

pub returns : goal.returns
returns c =
    let m = c.args.m in
    let b = c.args.b in
    let at = c.edges_start-at.result in
    let l = c.args.edges.now in
    let xs = c.args.out.now in
    let k : ℕ = at + length l - at in
    let zs = put_mid at k xs c.copy_from_slice.new.self in
    let e = there m b at k l xs c.copy_from_slice.new.self c.edges_start-at.ensures c.requires.1 c.requires.0 refl c.copy_from_slice.ensures.after in
    let o = over m b at k l xs c.copy_from_slice.new.self c.edges_start-at.ensures c.requires.1 c.requires.0 refl c.copy_from_slice.ensures.after in
    c.write_around_edges.ensures ∙ ap (λ x. front (encode (entry_held m b x)) zs) e ∙ o
