use Rattle.std.proofs.Common.{◌≡◌, ◌++◌, drop, map}
use Rattle.std.specs.Arc.{arc_value}
use Rattle.transcript.specs.Merge.{lane}
use Rattle.mged_words.specs.Entries.{command_entry}
use Rattle.script_run.proofs.tasks.session_commands.Given as goal

abbrev pub invariant-loop-next : goal.invariant-loop-next
invariant-loop-next l = map arc_value l.taken.items ++ lane (map command_entry (drop l.next-index l.script)) l.number ≡ lane (map command_entry l.script) l.number
