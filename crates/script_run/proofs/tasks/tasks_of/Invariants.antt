use Rattle.std.proofs.Common.{◌≡◌, ◌+◌, [], All, length, map, take}
use Rattle.transcript.specs.Transcript.{sessions}
use Rattle.version_table.specs.Passes.{pass_of}
use Rattle.version_table.specs.Places.{total}
use Rattle.mged_words.specs.Entries.{command_entry}
use Rattle.script_run.specs.AtOnce.{IsTask, number_of, those_with}
use Rattle.script_run.proofs.TaskLaws.{calls_of}
use Rattle.script_run.proofs.tasks.tasks_of.Given as goal

abbrev pub invariant-loop-i : goal.invariant-loop-i
invariant-loop-i l = record {
  pass : l.pass ≡ pass_of l.table.id 0 [] [] l.pass.left;
  left : l.pass.left + total (calls_of (map command_entry l.script)) (take l.i sessions) ≡ length l.script;
  tasks : All (IsTask l.table.id (map command_entry l.script)) l.tasks.items;
  numbers : map number_of l.tasks.items ≡ those_with (map command_entry l.script) (take l.i sessions);
}
