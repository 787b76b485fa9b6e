-- The commands of a script with their sessions, as the plain data of its definition.
use Rattle.std.specs.Prelude.{◌≤◌, ℕ}
use Rattle.std.specs.Arc.{arc_value}
use Rattle.transcript.specs.Merge.{Entry}
use Rattle.command_set.specs.declared.command.Command.{Command}
use Rattle.mged_words.specs.declared.command.ScriptCommand.{ScriptCommand}

-- a command of a script, with its session
abbrev pub command_entry : ScriptCommand → Entry Command
command_entry c = record { session = c.session; item = arc_value c.command }

abbrev pub session_of : Entry Command → ℕ
session_of e = e.session

-- the session is one of the eight
abbrev pub HasSession : Entry Command → Type 0
HasSession e = (1 ≤ e.session) × (e.session ≤ 8)
