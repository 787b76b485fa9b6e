use Rattle.std.proofs.Common.{rules}
use Rattle.object_pages.proofs.TallyLemmas.{one_alone, one_is_there}
use Rattle.object_pages.proofs.tally.Tally.only.Goals as goal

pub returns-then-len-eq1-clause-some : goal.returns-then-len-eq1-clause-some
returns-then-len-eq1-clause-some c = one_alone c.args.self.now c.at.result (search rules) c.at.ensures

pub returns-then-len-eq1-clause-none : goal.returns-then-len-eq1-clause-none
returns-then-len-eq1-clause-none c = one_is_there c.args.self.now c.at.result (search rules) c.at.ensures
