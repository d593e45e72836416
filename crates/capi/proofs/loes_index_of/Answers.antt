use Rattle.capi.proofs.Codes.{onward, lookup_coded}
use Rattle.capi.proofs.loes_index_of.Goals as goal

pub returns : goal.returns
returns c = onward c.index_of.ensures (lookup_coded _ c.from.ensures)
