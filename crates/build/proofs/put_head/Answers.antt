use Rattle.std.proofs.Common.{[], ◌∷◌, refl, ap, ◌∙◌, slice_set, arith}
use lib.Seq.{sets-eq}
use Rattle.loes.specs.Bytes.{Bytes, big_endian, front}
use Rattle.loes.proofs.Bytes.{length_big_endian}
use Rattle.build.proofs.Front.{behind}
use Rattle.build.proofs.put_head.Goals as goal

pub returns : goal.returns
unfolding front
returns c =
    let tag : Bytes = c.tag.result ∷ [] in
    let body = big_endian 2 c.args.n in
    let size = length_big_endian 2 c.args.n in
    behind tag body c.args.out.now (slice_set c.args.out.now 0 c.tag.result) c.put.new.out 1 refl (sets-eq tag c.args.out.now 0 (omega arith)) (omega (arith, size)) c.put.ensures
    ∙ ap (λ t. front (t ∷ body) c.args.out.now) c.tag.ensures
