use Rattle.capi.proofs.Codes.{onward, key_coded}
use Rattle.capi.proofs.loes_key_at.Goals as goal

pub returns : goal.returns
returns c = onward c.key_at.ensures (key_coded _ _ c.of_key.ensures)
