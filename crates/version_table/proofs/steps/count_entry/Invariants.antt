use Rattle.std.proofs.Common.{Some}
use Rattle.std.specs.Arc.{arc_value}
use Rattle.version_table.specs.Run.{note_of}
use Rattle.version_table.proofs.steps.count_entry.Given as goal

abbrev pub ghosts-count : goal.ghosts-count
ghosts-count g a = record { entry = Some (note_of a.session (arc_value a.command.now) a.memory) }
