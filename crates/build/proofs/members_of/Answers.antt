use Rattle.std.proofs.Common.{◌≡◌, ℕ, sym, ap, ◌∙◌, arith}
use Rattle.loes.specs.Bytes.{Bytes, bits_in}
use Rattle.loes.specs.Edges.{ones, rank}
use Rattle.loes.specs.Prefixes.{roots, ends}
use Rattle.loes.specs.Held.{Holds}
use Rattle.loes.proofs.Lists.{rank_le}
use Rattle.loes.proofs.Bits.{length_bits_in}
use Rattle.bits.proofs.Counts.{rank_bits}
use Rattle.build.proofs.Shape.{roots_le, ends_last, enough, held_count}
use Rattle.build.proofs.members_of.Goals as goal

-- all set bits are those before the last level's end
all : (m b : ℕ) (l x : Bytes) (n : ℕ) → Holds m b l → x ≡ l → n ≡ ones (bits_in x b) → n ≡ rank (bits_in l b) (ends (roots b) (bits_in l b) m)
all m b l x n h e q = q ∙ ap (λ y. ones (bits_in y b)) e ∙ sym (rank_bits l b b (omega arith)) ∙ ap (rank (bits_in l b)) (sym (ends_last m b l h))

pub overflow_add-result : goal.overflow_add-result
overflow_add-result c =
    let l = c.args.edges.now in
    let b = c.args.b in
    let q = all c.args.m b l c.count_to.result.edges.now c.ones_at-n.result c.requires.0 (c.count_to.ensures.0 ∙ c.none.ensures.0) c.ones_at-n.ensures in
    omega (arith, (rank_le (bits_in l b) (ends (roots b) (bits_in l b) c.args.m)).1, length_bits_in l b, roots_le b, c.requires.0.few)

pub overflow_sub-result : goal.overflow_sub-result
overflow_sub-result c =
    let q = all c.args.m c.args.b c.args.edges.now c.count_to.result.edges.now c.ones_at-n.result c.requires.0 (c.count_to.ensures.0 ∙ c.none.ensures.0) c.ones_at-n.ensures in
    rw c.roots_of.ensures.0 (enough c.args.m c.args.b c.args.edges.now c.requires.0 c.ones_at-n.result q)

pub returns : goal.returns
returns c =
    let q = all c.args.m c.args.b c.args.edges.now c.count_to.result.edges.now c.ones_at-n.result c.requires.0 (c.count_to.ensures.0 ∙ c.none.ensures.0) c.ones_at-n.ensures in
    rw c.roots_of.ensures.0 (held_count c.args.m c.args.b c.args.edges.now c.requires.0 c.ones_at-n.result q)
