use Rattle.std.proofs.Common.{◌≡◌, ◌+◌, length, take}
use Rattle.transcript.specs.Lines.{text_of}
use Rattle.report_text.specs.Overlaps.{overlap_lines}
use Rattle.report_text.proofs.overlaps.overlap_text.Given as goal

abbrev pub invariant-loop-pair : goal.invariant-loop-pair
invariant-loop-pair l = (l.body ≡ overlap_lines l.scene (take l.pair-index l.pairs)) × (l.left + length (text_of l.body) ≡ l.room)
