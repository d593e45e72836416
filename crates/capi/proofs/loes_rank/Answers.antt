use Rattle.capi.proofs.Codes.{onward, ranked_coded}
use Rattle.capi.proofs.loes_rank.Goals as goal

pub returns : goal.returns
returns c = onward c.rank.ensures (ranked_coded _ c.from.ensures)
