use mathlib.Core.Path.{ap, sym, ◌∙◌}
use Prim.Native.Nat.{◌+◌, ◌*◌}
use Rattle.pack.proofs.SetBits.{bits_one}
use Rattle.pack.specs.Marking.{set_bit}
use Rattle.pack.specs.Batch.{row_offset}
use Rattle.pack.proofs.mark_one.Goals as goal

pub returns : goal.returns
unfolding row_offset
returns c =
    let o = row_offset c.args.batch c.args.e c.args.first.0 in
    c.set_bit.ensures ∙ ap (λ b. set_bit c.args.edges.now (2 * (c.args.first.0 + c.args.i) + b)) c.bit.ensures ∙ sym (bits_one o c.args.i c.args.edges.now)
