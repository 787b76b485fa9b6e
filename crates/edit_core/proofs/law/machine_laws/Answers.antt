use Rattle.edit_core.proofs.ModelLaws.{commits_is, accepted_makes, refused_leaves, look_leaves}
use Rattle.edit_core.proofs.law.machine_laws.Goals as goal

pub returns-clause-commits : goal.returns-clause-commits
returns-clause-commits c = commits_is

pub returns-clause-accepted : goal.returns-clause-accepted
returns-clause-accepted c = accepted_makes

pub returns-clause-refused : goal.returns-clause-refused
returns-clause-refused c = refused_leaves

pub returns-clause-looks : goal.returns-clause-looks
returns-clause-looks c = look_leaves
