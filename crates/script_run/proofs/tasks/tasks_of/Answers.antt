use Rattle.std.proofs.Common.{◌≡◌, ◌<◌, ◌+◌, ℕ, List, [], map, take, length, ap, arith, sym, ◌∙◌}
use Rattle.std.proofs.lemmas.List.{length-map}
use Rattle.transcript.specs.Merge.{Entry}
use Rattle.transcript.specs.Transcript.{sessions}
use Rattle.version_table.specs.Passes.{PassView, pass_of}
use Rattle.version_table.specs.Places.{total}
use Rattle.command_set.specs.declared.command.Command.{Command}
use Rattle.mged_words.specs.Entries.{command_entry}
use Rattle.script_run.specs.AtOnce.{number_of}
use Rattle.script_run.proofs.TaskLaws.{calls_of, still_first, calls_there, calls_next, calls_all, numbers_next}
use Rattle.script_run.proofs.tasks.tasks_of.Goals as goal

pub loop-i-preserved : goal.loop-i-preserved
loop-i-preserved c =
    let script : List (Entry Command) = map command_entry c.args.script.now in
    let i : ℕ = c.loop-i.i in
    let below : i < 8 = omega arith in
    let same : length script ≡ length c.args.script.now = length-map c.args.script.now command_entry in
    let is : c.loop-i.pass.left + total (calls_of script) (take i sessions) ≡ length script = c.loop-i.invariant.left ∙ sym same in
    record {
      pass = still_first c.args.table.now.id _ c.loop-i.pass c.add_task.new.pass c.loop-i.invariant.pass c.in_ok-add_task.ensures.pass;
      left = calls_next script i c.loop-i.pass.left c.add_task.new.pass.left below is (ap (λ (p : PassView Command). p.left) c.in_ok-add_task.ensures.pass) ∙ same;
      tasks = c.in_ok-add_task.ensures.tasks;
      numbers = numbers_next script i (map number_of c.loop-i.tasks.items) (map number_of c.add_task.new.tasks.items) below c.loop-i.invariant.numbers c.in_ok-add_task.ensures.numbers;
    }

pub add_task-requires-clause-calls : goal.add_task-requires-clause-calls
add_task-requires-clause-calls c =
    calls_there (map command_entry c.args.script.now) c.loop-i.i c.loop-i.pass.left (omega arith) (c.loop-i.invariant.left ∙ sym (length-map c.args.script.now command_entry))

pub returns-clause-pass : goal.returns-clause-pass
returns-clause-pass c =
    let script : List (Entry Command) = map command_entry c.args.script.now in
    let end : c.loop-i.i ≡ 8 = omega arith in
    let is : c.loop-i.pass.left + total (calls_of script) (take 8 sessions) ≡ length script =
    ap (λ (n : ℕ). c.loop-i.pass.left + total (calls_of script) (take n sessions)) (sym end) ∙ c.loop-i.invariant.left ∙ sym (length-map c.args.script.now command_entry) in
    c.loop-i.invariant.pass ∙ ap (λ (n : ℕ). pass_of c.args.table.now.id 0 [] [] n) (calls_all script c.loop-i.pass.left c.requires.sessions is)
