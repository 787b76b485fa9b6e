use Rattle.put_form.proofs.CombLaws.{few_parts, many_parts}
use Rattle.put_form.proofs.attrs.coloured.Goals as goal

pub returns-in_default : goal.returns-in_default
returns-in_default c = few_parts c.args.words.now c.in_default.len_below

pub returns-in_default-2 : goal.returns-in_default-2
returns-in_default-2 c = many_parts c.args.words.now c.in_default.len_at_least
