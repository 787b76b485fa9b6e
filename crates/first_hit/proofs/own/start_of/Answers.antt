use Rattle.first_hit.proofs.FirstSearch.{first_of_alone}
use Rattle.first_hit.proofs.own.start_of.Goals as goal

pub returns-then-is_one_alone : goal.returns-then-is_one_alone
returns-then-is_one_alone c = first_of_alone c.args.own.now c.args.body.now.tree c.args.first _ _ c.requires (c.is_one_alone.ensures c.if-is_one_alone.true)
