use Rattle.capi.proofs.Opening.{opening_told}
use Rattle.capi.proofs.loes_open.Goals as goal

pub returns : goal.returns
returns c = opening_told _ _ c.open.ensures.told c.from.ensures
