use Rattle.lattice_core.specs.Views.{view_fault}
use Rattle.mged_words.specs.Commands.{view_refusal}
use Rattle.mged_words.proofs.ViewLines.{seen, unseen}
use Rattle.mged_words.proofs.views.checked.Goals as goal

pub returns-in-Ok : goal.returns-in-Ok
unfolding view_refusal
returns-in-Ok c = seen c.args.view c.in-Ok.view (view_fault c.args.view) c.in-Ok.ensures.value

pub returns-in-Err : goal.returns-in-Err
unfolding view_refusal
returns-in-Err c = unseen c.args.view c.in-Err.fault (view_fault c.args.view) c.in-Err.ensures.value
