use mathlib.Core.Path.{◌≡◌, sym, ap, ap₂, ◌∙◌}
use mathlib.Core.List.{[], ◌∷◌}
use Prim.Native.Nat.{ℕ, ◌+◌, ◌-◌, ◌≤◌}
use native.Mathlib.Omega.{arith}
use lib.ListN.{length}
use borrow.Rule.Slice.PartMut.{put_mid, mid_len}
use borrow.Author.Tests.{ltb-true, ltb-false}
use borrow.Author.Rules.{rules}
use Rattle.loes.specs.Limits.{max_width, max_edges}
use Rattle.loes.specs.Bytes.{Bytes, pack_bits, front}
use Rattle.loes.specs.Entry.{Entry, edges_of}
use Rattle.loes.specs.Encode.{encode}
use Rattle.loes.specs.Read.{edge_bytes, body_at, start4, end_of}
use Rattle.loes.specs.Held.{entry_held}
use Rattle.loes.specs.Model.{wrote, refusal, batch_entry}
use Rattle.build.specs.Writing.{HoldsOnly, standing, written_outcome}
use Rattle.build.proofs.Standing.{edges_end, stands, length_put, covered}
use Rattle.pack.proofs.Written.{batch_small, batch_sealed, batch_held, batch_length, call_short, call_fits}
use Rattle.pack.specs.Packing.{Ready}
use lib.ListN.{take, drop}
use Rattle.loes.specs.Entry.{edge_count}
use Rattle.pack.proofs.write_planned.Goals as goal

-- an accepted batch, and room for its encoding
module _ (m b : ℕ) (l levels xs : Bytes) (ready : Ready m l levels) (count : b ≡ edge_count (batch_entry m l)) where
  abbrev e : Entry
  e = batch_entry m l

  small : (m ≤ max_width) × (b ≤ max_edges)
  small = batch_small m b l ready.accepted count

  -- where the edges go
  module _ (room : end_of m b ≤ length xs) (at len : ℕ) (place : at ≡ body_at (start4 m)) (bytes : len ≡ edge_bytes b) where
    fits : at + len ≤ length xs
    fits = omega (arith, edges_end m b)

    abbrev k : ℕ
    k = at + len - at

    size : k ≡ edge_bytes b
    size = omega arith

    -- the edges are in their place
    module _ (ys : Bytes) (full : length ys ≡ length (take k (drop at xs))) (filled : ys ≡ pack_bits (edges_of e)) where
      abbrev zs : Bytes
      zs = put_mid at k xs ys

      long : length ys ≡ k
      long = full ∙ mid_len at (at + len) xs fits

      there : standing m b zs ≡ pack_bits (edges_of e)
      there = stands m b at k xs ys place size long room ∙ filled

      around : (end_of m b ≤ length zs) × HoldsOnly m b (standing m b zs)
      around = (omega (arith, length_put m b at k xs ys place size long room), rw there (batch_sealed m b l ready.accepted count))

      written : (us : Bytes) → us ≡ front (encode (entry_held m b (standing m b zs))) zs → us ≡ front (encode e) xs
      written us done =
          done ∙ ap (λ x. front (encode (entry_held m b x)) zs) there ∙ ap (λ x. front (encode x) zs) (batch_held m b l ready.accepted count)
          ∙ covered m b at k xs ys place size long room (encode e) (batch_length m b l ready.accepted count)

pub too_short-requires : goal.too_short-requires
too_short-requires c = let a = c.args in small a.m a.b a.batch.now a.levels.now a.out.now c.requires.0 c.requires.1

pub returns-then-too_short : goal.returns-then-too_short
unfolding written_outcome refusal
returns-then-too_short c =
    let a = c.args in
    sym (call_short a.m a.b a.batch.now c.requires.0.accepted c.requires.1 a.out.now (ltb-true (length a.out.now) (end_of a.m a.b) (sym c.too_short.ensures ∙ c.if-too_short.true)))

pub edges_start-at-requires : goal.edges_start-at-requires
edges_start-at-requires c = let a = c.args in (small a.m a.b a.batch.now a.levels.now a.out.now c.requires.0 c.requires.1).0

pub bytes_for-requires : goal.bytes_for-requires
bytes_for-requires c = let a = c.args in (small a.m a.b a.batch.now a.levels.now a.out.now c.requires.0 c.requires.1).1

pub overflow_add-at : goal.overflow_add-at
overflow_add-at c =
    let a = c.args in
    let room = ltb-false (length a.out.now) (end_of a.m a.b) (sym c.too_short.ensures ∙ c.if-too_short.false) in
    omega (arith, fits a.m a.b a.batch.now a.levels.now a.out.now c.requires.0 c.requires.1 room c.edges_start-at.result c.bytes_for.result c.edges_start-at.ensures c.bytes_for.ensures.0)

pub slice_bounds-fill-end : goal.slice_bounds-fill-end
slice_bounds-fill-end c =
    let a = c.args in
    let room = ltb-false (length a.out.now) (end_of a.m a.b) (sym c.too_short.ensures ∙ c.if-too_short.false) in
    let f = fits a.m a.b a.batch.now a.levels.now a.out.now c.requires.0 c.requires.1 room c.edges_start-at.result c.bytes_for.result c.edges_start-at.ensures c.bytes_for.ensures.0 in
    search rules

pub fill-requires : goal.fill-requires
fill-requires c =
    let a = c.args in
    let room = ltb-false (length a.out.now) (end_of a.m a.b) (sym c.too_short.ensures ∙ c.if-too_short.false) in
    let at = c.edges_start-at.result in
    let f = fits a.m a.b a.batch.now a.levels.now a.out.now c.requires.0 c.requires.1 room at c.bytes_for.result c.edges_start-at.ensures c.bytes_for.ensures.0 in
    record {
      ready = c.requires.0;
      long = c.requires.2;
      room = mid_len at (at + c.bytes_for.result) a.out.now f ∙ size a.m a.b a.batch.now a.levels.now a.out.now c.requires.0 c.requires.1 room at c.bytes_for.result c.edges_start-at.ensures c.bytes_for.ensures.0 ∙ ap edge_bytes c.requires.1;
    }

pub write_around_edges-requires : goal.write_around_edges-requires
write_around_edges-requires c =
    let a = c.args in
    let room = ltb-false (length a.out.now) (end_of a.m a.b) (sym c.too_short.ensures ∙ c.if-too_short.false) in
    around a.m a.b a.batch.now a.levels.now a.out.now c.requires.0 c.requires.1 room c.edges_start-at.result c.bytes_for.result c.edges_start-at.ensures c.bytes_for.ensures.0 c.fill.new.edges c.fill.auto.edges c.fill.ensures

pub length_of-requires : goal.length_of-requires
length_of-requires c = let a = c.args in small a.m a.b a.batch.now a.levels.now a.out.now c.requires.0 c.requires.1

pub returns : goal.returns
unfolding written_outcome
returns c =
    let a = c.args in
    let room = ltb-false (length a.out.now) (end_of a.m a.b) (sym c.too_short.ensures ∙ c.if-too_short.false) in
    let done = written a.m a.b a.batch.now a.levels.now a.out.now c.requires.0 c.requires.1 room c.edges_start-at.result c.bytes_for.result c.edges_start-at.ensures c.bytes_for.ensures.0 c.fill.new.edges c.fill.auto.edges c.fill.ensures c.write_around_edges.new.out c.write_around_edges.ensures in
    ap₂ (λ i x. record { answer = wrote (i ∷ []); buffers = x ∷ [] }) c.length_of.ensures done ∙ sym (call_fits a.m a.b a.batch.now c.requires.0.accepted c.requires.1 a.out.now room)
