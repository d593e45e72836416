use Rattle.capi.proofs.Codes.{range_onward}
use Rattle.capi.proofs.loes_prefix.Goals as goal

pub returns : goal.returns
returns c = range_onward c.prefix.ensures c.from.ensures
