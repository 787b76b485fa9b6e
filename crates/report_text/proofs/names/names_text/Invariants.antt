use Rattle.std.proofs.Common.{◌≡◌, ◌+◌, length, take}
use Rattle.transcript.specs.Lines.{text_of}
use Rattle.report_text.specs.Names.{names_lines}
use Rattle.report_text.proofs.names.names_text.Given as goal

abbrev pub invariant-loop-place : goal.invariant-loop-place
invariant-loop-place l = (l.body ≡ names_lines (take l.place l.directory.objects)) × (l.left + length (text_of l.body) ≡ l.room)
