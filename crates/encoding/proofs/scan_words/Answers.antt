use mathlib.Core.Path.{◌≡◌, sym, ap, ◌∙◌, subst}
use Prim.Native.Nat.{◌+◌, ◌*◌, ◌/◌, ◌≤◌}
use native.Mathlib.Omega.{arith}
use lib.ListN.{drop}
use lib.Seq.{drop-drop}
use lib.Bits.{bit_and, bit_or}
use lib.Count
use Rattle.bits.specs.Words.{word_in, mask, Scanned}
use Rattle.bits.proofs.Counts.{ones_bits_le}
use Rattle.bits.proofs.Words.{Small, small_from, word_ones_le, scan_start, scan_next}
use Rattle.encoding.proofs.scan_words.Goals as goal

pub loop-i-init : goal.loop-i-init
unfolding mask
loop-i-init c = let a = c.args in (omega arith, scan_start (drop a.from a.l.now))

pub overflow_cast-n : goal.overflow_cast-n
overflow_cast-n c =
    let small : Small (let a = c.args in drop a.from a.l.now) = let a = c.args in small_from a.l.now a.from (λ i. (c.shared_slice_known-1.given i).fits) in
    let word-is : c.word-x.result ≡ word_in (drop (8 * c.loop-i.i) (let a = c.args in drop a.from a.l.now)) 8 = let a = c.args in
    c.word-x.ensures ∙ ap (λ y. word_in y 8) (sym (drop-drop (8 * c.loop-i.i) a.from a.l.now)) in
    let few : Count.ones c.word-x.result ≤ 64 = omega (arith, ap Count.ones word-is, word_ones_le (drop (8 * c.loop-i.i) (let a = c.args in drop a.from a.l.now)) 8 (small_from (let a = c.args in drop a.from a.l.now) (8 * c.loop-i.i) small)) in
    omega (arith, few)

pub overflow_add-n : goal.overflow_add-n
overflow_add-n c =
    let small : Small (let a = c.args in drop a.from a.l.now) = let a = c.args in small_from a.l.now a.from (λ i. (c.shared_slice_known-1.given i).fits) in
    let word-is : c.word-x.result ≡ word_in (drop (8 * c.loop-i.i) (let a = c.args in drop a.from a.l.now)) 8 = let a = c.args in
    c.word-x.ensures ∙ ap (λ y. word_in y 8) (sym (drop-drop (8 * c.loop-i.i) a.from a.l.now)) in
    let few : Count.ones c.word-x.result ≤ 64 = omega (arith, ap Count.ones word-is, word_ones_le (drop (8 * c.loop-i.i) (let a = c.args in drop a.from a.l.now)) 8 (small_from (let a = c.args in drop a.from a.l.now) (8 * c.loop-i.i) small)) in
    omega (arith, few, c.loop-i.invariant.1.count, ones_bits_le (let a = c.args in drop a.from a.l.now) (8 * (8 * c.loop-i.i)))

pub loop-i-preserved : goal.loop-i-preserved
loop-i-preserved c =
    let small : Small (let a = c.args in drop a.from a.l.now) = let a = c.args in small_from a.l.now a.from (λ i. (c.shared_slice_known-1.given i).fits) in
    let word-is : c.word-x.result ≡ word_in (drop (8 * c.loop-i.i) (let a = c.args in drop a.from a.l.now)) 8 = let a = c.args in
    c.word-x.ensures ∙ ap (λ y. word_in y 8) (sym (drop-drop (8 * c.loop-i.i) a.from a.l.now)) in
    let h = c.loop-i in
    let z : 8 * (h.i + 1) ≡ 8 * h.i + 8 = omega arith in (
      omega arith,
      rw z
          (subst (λ x. Scanned (let a = c.args in drop a.from a.l.now) (8 * h.i + 8) (bit_and h.full (bit_or x (x / 2))) (h.n + Count.ones x)) (sym word-is) (scan_next (let a = c.args in drop a.from a.l.now) (8 * h.i) h.full h.n small h.invariant.1)),
    )

pub returns : goal.returns
returns c = let z : c.loop-i.i ≡ c.args.words = omega arith in rw z at c.loop-i.invariant.1
