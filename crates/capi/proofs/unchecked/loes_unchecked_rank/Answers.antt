use Rattle.capi.proofs.Codes.{onward, ranked_coded}
use Rattle.capi.proofs.unchecked.loes_unchecked_rank.Goals as goal

pub returns : goal.returns
returns c = rw (← c.opened-o.ensures) (onward c.rank.ensures (ranked_coded _ c.from.ensures))
