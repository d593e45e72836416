use borrow.Author.Count.{below_more}
use borrow.Author.Tests.{lt-leb, le-leb}
use mathlib.Core.Path.{◌≡◌, refl, ap, ◌∙◌}
use Prim.Native.Nat.{ℕ, ◌+◌, ◌-◌, ◌*◌, ◌<◌, ◌≤◌}
use native.Mathlib.Omega.{arith}
use mir.Val.{bool_byte}
use lib.Dec.{leb}
use lib.ListN.{length, get_or}
use lib.Seq.{get_or-set_same, get_or-set_other}
use Rattle.loes.specs.Bytes.{bit, started}
use Rattle.loes.specs.Entry.{key_bytes}
use Rattle.pack.proofs.SetBits.{bits_more, bits_past, bits_all, above_is, byte_bit}
use Rattle.pack.specs.Marking.{set_bit, offset_of, KeyFits, AboveFits}
use Rattle.std.proofs.Common.{List}
use Rattle.loes.specs.Bytes.{Bytes}
use Rattle.pack.proofs.mark_key.Goals as goal

-- the level above the first new one has a record
up : (m new : ℕ) (key : Bytes) (cursors : List ℕ) (edges : Bytes) → KeyFits m new key cursors edges → new ≤ m → AboveFits new cursors edges
up m new key cursors edges k h p =
    let q = ap bit (lt-leb new (new - 1) (omega arith)) in
    (omega (arith, k.long), omega (arith, q, k.some (new - 1) (omega arith)), omega (arith, q, k.fit (new - 1) (omega arith)))

-- a level from the first new one on gets a record
here : (m new e next : ℕ) (key : Bytes) (cursors : List ℕ) (edges : Bytes) → KeyFits m new key cursors edges → new ≤ e → e < m → next ≡ get_or cursors e 0
    → (2 * (next + 1) ≤ 8 * length edges) × (next + 1 ≡ get_or cursors e 0 + bit (leb new e))
here m new e next key cursors edges k h l q =
    let newer : bit (leb new e) ≡ 1 = ap bit (le-leb new e h) in (omega (arith, newer, k.fit e l), omega (arith, newer))

pub returns-then-m-new-clause-set : goal.returns-then-m-new-clause-set
returns-then-m-new-clause-set c =
    let a = c.args in bits_past (offset_of a.cursors.now a.new a.key.now) (a.new - 1) a.m a.edges.now (omega (arith, c.if-m-new.true))

pub loop-e-init : goal.loop-e-init
loop-e-init c =
    let a = c.args in
    record {
      moved = λ x l. rw (lt-leb a.new x l) (omega arith);
      same = λ x l. refl;
      set = bits_past (offset_of a.cursors.now a.new a.key.now) a.new a.new _ (omega arith);
    }

pub bit_at-requires : goal.bit_at-requires
unfolding key_bytes started
bit_at-requires c = omega (arith, c.requires.far)

pub loop-e-preserved : goal.loop-e-preserved
unfolding offset_of
loop-e-preserved c =
    let a = c.args in
    let e = c.loop-e.e in
    let l = c.loop-e.cursors in
    let next : ℕ = get_or l e 0 in
    let o = offset_of a.cursors.now a.new a.key.now in
    let same : next ≡ get_or a.cursors.now e 0 = c.loop-e.invariant.same e (omega arith) in
    let h = here a.m a.new e next a.key.now a.cursors.now a.edges.now c.requires (omega arith) (omega arith) same in
    let offset : 2 * next + bool_byte c.bit_at.result ≡ o e = omega (arith, h.1, byte_bit c.bit_at.result, ap bit c.bit_at.ensures) in
    record {
      moved =
          below_more _ _ (λ x q. get_or-set_other l e x (next + 1) 0 (λ z. absurd (omega (arith, z))) ∙ c.loop-e.invariant.moved x q) (get_or-set_same l e (next + 1) 0 (omega arith) ∙ h.1);
      same = λ x q. get_or-set_other l e x (next + 1) 0 (λ z. absurd (omega (arith, z))) ∙ c.loop-e.invariant.same x (omega arith);
      set = bits_more o a.new e _ c.loop-e.edges c.set_bit.new.b (omega arith) c.loop-e.invariant.set (c.set_bit.ensures ∙ ap (set_bit c.loop-e.edges) offset);
    }

pub returns-clause-set : goal.returns-clause-set
returns-clause-set c =
    let a = c.args in
    let z : c.loop-e.e ≡ a.m = omega arith in
    let o = offset_of a.cursors.now a.new a.key.now in
    rw z at c.loop-e.invariant.set ∙ bits_all o a.new a.m a.edges.now _ c.if-m-new.false
    (c.mark_above.ensures ∙ above_is a.cursors.now a.new a.key.now a.edges.now (λ p. ((up a.m a.new a.key.now a.cursors.now a.edges.now c.requires c.if-m-new.false p).1, c.requires.later p c.if-m-new.false)))
