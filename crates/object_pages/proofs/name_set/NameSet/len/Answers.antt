use Rattle.object_pages.proofs.NamesLemmas.{set_distinct, no_first}
use Rattle.object_pages.proofs.name_set.NameSet.len.Goals as goal

pub returns-in-Some-clause-distinct : goal.returns-in-Some-clause-distinct
returns-in-Some-clause-distinct c = set_distinct c.self.inside.first _ c.args.self.now c.self.invariant c.len.ensures.unique c.self.view_is

pub returns-in-None-clause-distinct : goal.returns-in-None-clause-distinct
returns-in-None-clause-distinct c = no_first c.self.inside.first _ c.args.self.now c.in-None.is c.self.invariant c.self.view_is
