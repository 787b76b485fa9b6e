use Rattle.std.proofs.Common.{List, map, rules, ◌∙◌}
use Rattle.std.proofs.lemmas.List.Elements.{All-weaker, All-from_recursion}
use Rattle.transcript.specs.Merge.{Entry}
use Rattle.session_merge.specs.Joined.{sessions_in}
use Rattle.command_set.specs.declared.command.Command.{Command}
use Rattle.mged_words.specs.Entries.{command_entry}
use Rattle.script_run.specs.AtOnce.{CanJoin, CanRun, IsTask, all_done}
use Rattle.script_run.specs.declared.at_once.Finished.{Finished}
use Rattle.script_run.proofs.TaskLaws.{all_run, apart_of, can_join, can_run, sessions_after, tasks_run}
use Rattle.script_run.proofs.at_once.run_sessions.Goals as goal

pub run_tasks-requires-clause-ready : goal.run_tasks-requires-clause-ready
run_tasks-requires-clause-ready g c κs live =
    let script : List (Entry Command) = map command_entry c.args.script.now in
    All-weaker (IsTask c.args.table.now.id script) (CanRun c.args.table.now.id) (λ t is. can_run c.args.table.now.id script t is) c.in_ok-tasks.tasks.items c.in_ok-tasks.ensures.tasks

pub join_all-requires-clause-each : goal.join_all-requires-clause-each
join_all-requires-clause-each g c =
    let script : List (Entry Command) = map command_entry c.args.script.now in
    let fs : List Finished = c.in_ok-finished.finished.items in
    let run = tasks_run c.args.table.now.told.state c.args.table.now.id script c.in_ok-tasks.tasks.items fs (search rules) c.in_ok-tasks.ensures.tasks c.in_ok-tasks.ensures.numbers
    (λ i t f lt. c.in_ok-finished.ensures.ran i t f (search rules)) in
    All-from_recursion (CanJoin c.args.table.now.id) fs (can_join c.args.table.now.told.state c.args.table.now.id script fs run.0)

pub join_all-requires-clause-apart : goal.join_all-requires-clause-apart
join_all-requires-clause-apart g c =
    let script : List (Entry Command) = map command_entry c.args.script.now in
    let fs : List Finished = c.in_ok-finished.finished.items in
    let run = tasks_run c.args.table.now.told.state c.args.table.now.id script c.in_ok-tasks.tasks.items fs (search rules) c.in_ok-tasks.ensures.tasks c.in_ok-tasks.ensures.numbers
    (λ i t f lt. c.in_ok-finished.ensures.ran i t f (search rules)) in
    apart_of script (sessions_in (all_done fs)) (sessions_after c.args.table.now.told.state c.args.table.now.id script fs run.0 ∙ run.1)

pub returns-clause-run : goal.returns-clause-run
returns-clause-run g c =
    let script : List (Entry Command) = map command_entry c.args.script.now in
    let fs : List Finished = c.in_ok-finished.finished.items in
    let run = tasks_run c.args.table.now.told.state c.args.table.now.id script c.in_ok-tasks.tasks.items fs (search rules) c.in_ok-tasks.ensures.tasks c.in_ok-tasks.ensures.numbers
    (λ i t f lt. c.in_ok-finished.ensures.ran i t f (search rules)) in
    all_run c.args.table.now.told.state c.args.table.now.id script fs c.tasks_of.new.pass c.join_all.new.pass c.join_all.new.lists.items c.requires.sessions run.0 run.1
    c.in_ok-tasks.ensures.pass c.join_all.ensures.pass c.join_all.ensures.seen c.join_all.ensures.answers
