use Rattle.edit_core.proofs.ListLaws.{list_is}
use Rattle.edit_core.proofs.law.list_laws.Goals as goal

pub returns-clause-list : goal.returns-clause-list
returns-clause-list c = list_is
