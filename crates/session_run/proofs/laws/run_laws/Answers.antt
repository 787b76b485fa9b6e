use Rattle.session_run.proofs.PlaceLaws.{versions_never_fall, rises_with_edits, answers_at_places, one_directory}
use Rattle.session_run.proofs.laws.run_laws.Goals as goal

pub returns-clause-versions : goal.returns-clause-versions
returns-clause-versions c = versions_never_fall

pub returns-clause-edits : goal.returns-clause-edits
returns-clause-edits c = rises_with_edits

pub returns-clause-places : goal.returns-clause-places
returns-clause-places c = answers_at_places

pub returns-clause-one_directory : goal.returns-clause-one_directory
returns-clause-one_directory c = one_directory
