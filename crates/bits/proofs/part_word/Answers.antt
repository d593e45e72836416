use mathlib.Core.Path.{◌≡◌, ap, ◌∙◌}
use Prim.Native.Nat.{ℕ, ◌+◌, ◌-◌, ◌*◌, ◌/◌, ◌^◌}
use native.Mathlib.Omega.{arith}
use lib.ListN.{drop}
use lib.Seq.{drop-drop}
use lib.Pow.{shr-shr}
use Rattle.loes.specs.Bytes.{Bytes}
use Rattle.bits.specs.Words.{word_in}
use Rattle.bits.proofs.Words.{small_from, word_rest}
use Rattle.bits.proofs.part_word.Goals as goal

pub returns : goal.returns
returns c = let a = c.args in
    let l = a.l.now in
    let from : ℕ = a.at + a.k - 8 in
    let j : ℕ = 8 - a.k in
    let w : Bytes = drop from l in
    let x : ℕ = c.word-x.result in
    let y : 8 * (7 - a.k) + 8 ≡ 8 * j = omega arith in
    let z : 8 ≡ j + a.k = omega arith in
    let p : from + j ≡ a.at = omega arith in
    shr-shr x (8 * (7 - a.k)) 8 ∙ ap (λ n. x / 2 ^ n) y ∙ ap (λ v. v / 2 ^ (8 * j)) (c.word-x.ensures ∙ ap (word_in w) z)
    ∙ word_rest w j a.k (small_from l from (λ i. (c.shared_slice_known-1.given i).fits))
    ∙ ap (λ v. word_in v a.k) (drop-drop j from l ∙ ap (λ n. drop n l) p)
