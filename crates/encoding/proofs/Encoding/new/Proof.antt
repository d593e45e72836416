use mathlib.Core.Path.{refl}
use native.Mathlib.Omega.{arith}
use Rattle.loes.specs.Read.{start4, start5, start6}
use borrow.Author.Rules.{rules}
use Rattle.encoding.proofs.Encoding.new.Statement.{statement}
use Rattle.encoding.proofs.Encoding.new.Tie as tie

mul-edges : tie.Need-overflow_mul-edges
mul-edges c = search rules

add-edges : tie.Need-overflow_add-edges
add-edges c = search rules

add-edges-2 : tie.Need-overflow_add-edges-2
add-edges-2 c = search rules

bytes-for-requires : tie.Need-bytes_for-requires
bytes-for-requires c κs = search rules

add-blocks : tie.Need-overflow_add-blocks
add-blocks c = search rules

add-blocks-2 : tie.Need-overflow_add-blocks-2
add-blocks-2 c = search rules

started-by-requires : tie.Need-started_by-started-requires
started-by-requires c κs = search rules

mul-sub-blocks : tie.Need-overflow_mul-sub_blocks
mul-sub-blocks c = search rules

add-sub-blocks : tie.Need-overflow_add-sub_blocks
add-sub-blocks c = search rules

add-sub-blocks-2 : tie.Need-overflow_add-sub_blocks-2
add-sub-blocks-2 c = search rules

returns : tie.Need-returns
unfolding start4 start5 start6
returns c =
    let b = c.before.bytes_for.ensures.0 in
    let s = c.started_by-started.ensures.0 in
    record { width = refl; count = refl; bits = refl; edges = refl; blocks = omega (arith, b); sub_blocks = omega (arith, b, s) }

pub new_spec : {M : Type 1} → statement M
new_spec =
    tie.close
    (tie.spec
    mul-edges
    add-edges
    add-edges-2
    bytes-for-requires
    add-blocks
    add-blocks-2
    started-by-requires
    mul-sub-blocks
    add-sub-blocks
    add-sub-blocks-2
    returns)
