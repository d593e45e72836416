use mathlib.Core.Path.{◌≡◌, sym, ◌∙◌}
use Prim.Native.Nat.{ℕ, suc}
use native.Mathlib.Omega.{arith}
use Rattle.loes.specs.Prefixes.{roots, ends}
use Rattle.encoding.specs.Opened.{edges_at}
use Rattle.encoding.proofs.Opened.{length_edges_at}
use Rattle.encoding.proofs.Levels.{ends_none}
use Rattle.encoding.proofs.levels_agree.Goals as goal

pub levels_empty-requires : goal.levels_empty-requires
levels_empty-requires c = (c.requires.0.narrow, omega (arith, c.requires.0.levels))

pub returns-then-e-eq0 : goal.returns-then-e-eq0
returns-then-e-eq0 c = let a = c.args in
    let r = c.levels_empty.ensures in
    let none : (d : ℕ) → ends (roots a.e.bits) (edges_at a.l.now a.e) (suc d) ≡ 0 = λ d. ends_none (edges_at a.l.now a.e) a.e.bits (suc d) c.if-e-eq0.true (length_edges_at a.l.now a.e) in
    (λ t d h. r.0 t d h ∙ sym (none d), λ p. r.1 (λ d h. p d h ∙ none d))
