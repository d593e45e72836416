use Rattle.merge.proofs.Single.{or_codes}
use Rattle.merge.proofs.either_record.Goals as goal

pub returns : goal.returns
returns c = or_codes c.args.x c.args.y c.requires.0 c.requires.1
