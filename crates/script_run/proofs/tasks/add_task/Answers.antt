use Rattle.std.proofs.Common.{All, List, Option, map, subst, sym}
use Rattle.std.proofs.lemmas.List.Elements.{All-push}
use Rattle.transcript.specs.Merge.{Entry}
use Rattle.command_set.specs.declared.command.Command.{Command}
use Rattle.mged_words.specs.Entries.{command_entry}
use Rattle.script_run.specs.AtOnce.{IsTask, IsTaskOf}
use Rattle.script_run.specs.declared.tasks.Task.{Task}
use Rattle.script_run.proofs.tasks.add_task.Goals as goal

pub returns-in_ok-push-clause-tasks : goal.returns-in_ok-push-clause-tasks
returns-in_ok-push-clause-tasks c =
    let script : List (Entry Command) = map command_entry c.args.script.now in
    let told = subst {A = Option Task} (IsTaskOf c.args.table.now.id script c.args.number) c.in-Some.is c.in_ok-task.ensures.task in
    subst {A = List Task} (All (IsTask c.args.table.now.id script)) (sym {A = List Task} c.in_ok-push.ensures.items) (All-push (IsTask c.args.table.now.id script) c.args.tasks.now.items c.in-Some.task c.requires.tasks told.2)
