-- A script: its lines, the session of each, and the command of each line that is one.
use Rattle.std.specs.Prelude.{ℕ, Bool, true, not, ◌==◌, ◌&&◌, ◌+◌, ◌-◌, nat_le, nat_lt, List, [], ◌∷◌, Option, Some, None, Result, Ok, Err, is_none, find, length, if◌then◌else◌}
use Rattle.tcl_words.specs.Bytes.{is_blank}
use Rattle.transcript.specs.Lines.{lines_in}
use Rattle.transcript.specs.Merge.{Entry, entry}
use Rattle.mged_words.specs.Commands.{command_of}
use Rattle.command_set.specs.declared.command.Command.{Command}
use Rattle.mged_words.specs.declared.script.ScriptFlaw.{ScriptFlaw}
use Rattle.mged_words.specs.declared.script.TheConstants.{LINE_COUNT, LINE_SIZE, SCRIPT_SIZE}
use Rattle.mged_words.specs.declared.script.ScriptFlaw.TheVariants.{Size, Lines, LongLine, Session}

-- `1` to `8`
abbrev pub is_session_digit : ℕ → Bool
is_session_digit byte = nat_le 49 byte && nat_le byte 56

-- what stands behind `@`: a digit, and then a blank and the rest, or the end
abbrev pub at_session : List ℕ → Option (ℕ × List ℕ)
at_session [] = None
at_session (digit ∷ []) = if is_session_digit digit then Some (digit - 48, []) else None
at_session (digit ∷ next ∷ rest) = if is_session_digit digit && next == 32 then Some (digit - 48, rest) else None

-- the session of a line and its rest; a line without `@` is of session 1
abbrev pub session_and_rest : List ℕ → Option (ℕ × List ℕ)
session_and_rest [] = Some (1, [])
session_and_rest (byte ∷ rest) = if byte == 64 then at_session rest else Some (1, byte ∷ rest)

abbrev pub begins_comment : Option ℕ → Bool
begins_comment None = true
begins_comment (Some byte) = byte == 35

-- a rest that holds only blanks, or whose first byte that is no blank is `#`, is no command
abbrev pub is_no_command : List ℕ → Bool
is_no_command line = begins_comment (find (λ byte. not (is_blank byte)) line)

abbrev pub commands_with : Option (ℕ × List ℕ) → List (Entry Command) → List (Entry Command)
commands_with None others = others
commands_with (Some (session, rest)) others = if is_no_command rest then others else entry session (command_of rest) ∷ others

-- the commands of lines with their sessions, one for each line that is one
abbrev pub commands_in : List (List ℕ) → List (Entry Command)
commands_in [] = []
commands_in (line ∷ lines) = commands_with (session_and_rest line) (commands_in lines)

abbrev pub numbers_with : Option (ℕ × List ℕ) → ℕ → List ℕ → List ℕ
numbers_with None number others = others
numbers_with (Some (session, rest)) number others = if is_no_command rest then others else number ∷ others

-- the numbers of the lines that are commands, where the first line has this one
abbrev pub numbers_in : ℕ → List (List ℕ) → List ℕ
numbers_in number [] = []
numbers_in number (line ∷ lines) = numbers_with (session_and_rest line) number (numbers_in (number + 1) lines)

-- what is wrong with a line of this number: it is one too many, or too long, or begins with `@` and names no session
abbrev pub line_flaw : ℕ → List ℕ → Option ScriptFlaw
line_flaw number line =
    if nat_lt LINE_COUNT number then Some (Lines number)
    else (if nat_lt LINE_SIZE (length line) then Some (LongLine number)
    else (if is_none (session_and_rest line) then Some (Session number) else None))

abbrev pub or_later : Option ScriptFlaw → Option ScriptFlaw → Option ScriptFlaw
or_later None later = later
or_later (Some flaw) later = Some flaw

-- what is wrong with the first faulty line
abbrev pub lines_flaw : ℕ → List (List ℕ) → Option ScriptFlaw
lines_flaw number [] = None
lines_flaw number (line ∷ lines) = or_later (line_flaw number line) (lines_flaw (number + 1) lines)

-- the first fault of a script: its size, and then the first faulty line
abbrev pub script_flaw : List ℕ → Option ScriptFlaw
script_flaw text = if nat_lt SCRIPT_SIZE (length text) then Some Size else lines_flaw 1 (lines_in text)

abbrev pub script_read : Option ScriptFlaw → List (Entry Command) → Result (List (Entry Command)) ScriptFlaw
script_read None commands = Ok commands
script_read (Some flaw) commands = Err flaw

-- the commands of a script, or its first fault
abbrev pub script_of : List ℕ → Result (List (Entry Command)) ScriptFlaw
script_of text = script_read (script_flaw text) (commands_in (lines_in text))

-- the numbers, from 1, of the lines that are commands
abbrev pub line_numbers : List ℕ → List ℕ
line_numbers text = numbers_in 1 (lines_in text)
