use Rattle.std.proofs.Common.{Err, ap}
use Rattle.mged_top.proofs.ReadLaws.{too_long}
use Rattle.mged_top.proofs.read.read_commands.Goals as goal

pub returns-in-Err-TooLong-clause-read : goal.returns-in-Err-TooLong-clause-read
returns-in-Err-TooLong-clause-read g c = too_long (g.S.Source.left c.args.source.now) (c.in-Err-TooLong.ensures.too_long (ap Err c.in-Err-TooLong.field-0-is))
