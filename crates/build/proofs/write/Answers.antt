use Rattle.std.proofs.Common.{◌≡◌, ℕ, ◌≤◌, [], ◌∷◌, length, sym, ap, ap₂, ◌∙◌, arith}
use Rattle.loes.specs.Entry.{edge_count}
use Rattle.loes.specs.Encode.{encode}
use Rattle.loes.specs.Read.{end_of}
use Rattle.loes.specs.Held.{entry_held}
use Rattle.loes.specs.Model.{wrote, refusal}
use Rattle.loes.specs.Bytes.{Bytes}
use borrow.Author.Tests.{ltb-true, ltb-false}
use Rattle.loes.proofs.Writes.{writes_short, writes_fits}
use Rattle.build.specs.Writing.{HoldsOnly, written_outcome}
use Rattle.build.proofs.Shape.{held_bits}
use Rattle.build.proofs.Fields.{held_length}
use Rattle.build.proofs.write.Goals as goal

-- the entry's edges are few, and its encoding is so long
sizes : (m b : ℕ) (l : Bytes) → HoldsOnly m b l → (edge_count (entry_held m b l) ≤ 524280) × (length (encode (entry_held m b l)) ≡ end_of m b)
sizes m b l s = (omega (arith, held_bits m b l s.holds, s.holds.few), held_length m b l (held_bits m b l s.holds))

pub returns-then-too_short : goal.returns-then-too_short
unfolding written_outcome refusal
returns-then-too_short c =
    let e = entry_held c.args.m c.args.b c.args.edges.now in
    let s = sizes c.args.m c.args.b c.args.edges.now c.requires in
    ap (λ x. x.outcome) (sym (writes_short e c.args.out.now s.0 (omega (arith, ltb-true (length c.args.out.now) (end_of c.args.m c.args.b) (sym c.if-too_short.ensures)))))

pub returns : goal.returns
unfolding written_outcome refusal
returns c =
    let e = entry_held c.args.m c.args.b c.args.edges.now in
    let s = sizes c.args.m c.args.b c.args.edges.now c.requires in
    let room = ltb-false (length c.args.out.now) (end_of c.args.m c.args.b) (sym c.too_short.ensures ∙ c.if-too_short.false) in
    ap₂ (λ n x. record { answer = wrote (n ∷ []); buffers = x ∷ [] }) (c.length_of.ensures ∙ sym s.1) c.write_fitting.ensures ∙ sym (writes_fits e c.args.out.now s.0 (omega (arith, room)))
