-- Texts for which there is room.
use Rattle.std.specs.Prelude.{◌≡◌, ◌≤◌, ◌<◌, ℕ, List, length, Result, Ok, Err}
use Rattle.transcript.specs.Lines.{text_of}
use Rattle.report_text.specs.declared.fault.TextFault.{TextFault}
use Rattle.report_text.specs.declared.fault.TextFault.TheVariants.{Room, Memory}

-- the lines, where their text has at most `room` bytes, or the answer that it has more
abbrev pub IsText : Result (List (List ℕ)) TextFault → List (List ℕ) → ℕ → Type 0
IsText (Ok body) lines room = (body ≡ lines) × (length (text_of lines) ≤ room)
IsText (Err Room) lines room = room < length (text_of lines)
IsText (Err Memory) lines room = Unit {0}
