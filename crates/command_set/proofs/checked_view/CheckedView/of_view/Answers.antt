use Rattle.lattice_core.specs.Views.{view_fault}
use Rattle.command_set.proofs.ViewLaws.{taken, refused}
use Rattle.command_set.proofs.checked_view.CheckedView.of_view.Goals as goal

pub returns-in-Ok-clause-value : goal.returns-in-Ok-clause-value
returns-in-Ok-clause-value c = taken c.args.view (view_fault c.args.view) c.in-Ok.ensures.value

pub returns-in-Err-clause-value : goal.returns-in-Err-clause-value
returns-in-Err-clause-value c = refused c.args.view c.in-Err.fault (view_fault c.args.view) c.in-Err.ensures.value
