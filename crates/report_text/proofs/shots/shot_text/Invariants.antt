use Rattle.std.proofs.Common.{◌≡◌, ◌+◌, length, take}
use Rattle.transcript.specs.Lines.{text_of}
use Rattle.report_text.specs.Shots.{shot_lines}
use Rattle.report_text.proofs.shots.shot_text.Given as goal

abbrev pub invariant-loop-part : goal.invariant-loop-part
invariant-loop-part l = (l.body ≡ shot_lines l.scene (take l.part-index l.lit)) × (l.left + length (text_of l.body) ≡ l.room)
