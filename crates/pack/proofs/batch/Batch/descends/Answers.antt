use mathlib.Core.Path.{◌≡◌, ap, ◌∙◌}
use Prim.Native.Nat.{◌-◌}
use native.Mathlib.Omega.{arith}
use lib.ListN.{length}
use Rattle.loes.specs.Bytes.{started}
use Rattle.loes.specs.Entry.{key_bytes}
use Rattle.pack.specs.Batch.{key}
use native.Mathlib.Decide.{dec_le}
use mathlib.Core.Logic.{inl, inr}
use Rattle.loes.specs.Bytes.{bit_at}
use Rattle.pack.proofs.Order.{first_rises, all_common, some_new, old_bit}
use Rattle.pack.proofs.Places.{length_at}
use Rattle.pack.proofs.batch.Batch.descends.Goals as goal

pub returns-then-i-eq0 : goal.returns-then-i-eq0
returns-then-i-eq0 c =
    let b = c.args.self in
    let f = key b.width b.bytes.now in
    elim (dec_le c.args.i 0) [
      | yes h ↦ first_rises f c.args.i (omega arith)
      | no h ↦ let n : c.args.i ≡ 0 → ⊥ = λ z. absurd (omega (arith, z)) in
          elim c.then-i-eq0.either [ inl z ↦ absurd (n z) | inr w ↦ all_common b c.args.i c.args.new n c.requires.1 w.1 ]
    ]

pub overflow_sub-new : goal.overflow_sub-new
overflow_sub-new c = some_new c.args.self c.args.i c.args.new c.if-i-eq0.false c.requires.1

pub bit_at-requires : goal.bit_at-requires
unfolding key_bytes started
bit_at-requires c =
    let b = c.args.self in
    omega (arith, ap length c.key.ensures, length_at b (c.args.i - 1) (omega arith), b.whole.size, some_new b c.args.i c.args.new c.if-i-eq0.false c.requires.1)

pub returns : goal.returns
returns c = c.bit_at.ensures ∙ ap (λ x. bit_at x (c.args.new - 1)) c.key.ensures ∙ old_bit c.args.self c.args.i c.args.new c.if-i-eq0.false c.requires.1 c.if-new-self.false
