use Rattle.mged_words.proofs.LineLaws.{in_short}
use Rattle.mged_words.proofs.make.in_command.Goals as goal

pub returns-in_default : goal.returns-in_default
returns-in_default c = in_short c.args.atoms.now c.in_default.len_below
