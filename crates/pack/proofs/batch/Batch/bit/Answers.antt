use mathlib.Core.Path.{ap, ◌∙◌}
use native.Mathlib.Omega.{arith}
use lib.ListN.{length}
use Rattle.loes.specs.Bytes.{started}
use Rattle.loes.specs.Entry.{key_bytes}
use Rattle.loes.specs.Bytes.{bit, bit_at}
use Rattle.pack.proofs.SetBits.{byte_bit}
use Rattle.pack.proofs.Places.{length_at}
use Rattle.pack.proofs.batch.Batch.bit.Goals as goal

pub bit_at-requires : goal.bit_at-requires
unfolding key_bytes started
bit_at-requires c = omega (arith, ap length c.key.ensures, length_at c.args.self c.args.i c.requires.0, c.args.self.whole.size)

pub returns : goal.returns
returns c = byte_bit c.bit_at.result ∙ ap bit (c.bit_at.ensures ∙ ap (λ x. bit_at x c.args.e) c.key.ensures)
