use Rattle.records.proofs.Codes.{put_ok}
use Rattle.records.proofs.put_record.Goals as goal

pub returns : goal.returns
returns c = put_ok c.args.out.now c.args.i.0 c.args.z c.with_record.result c.requires.0 c.requires.1 c.with_record.ensures
