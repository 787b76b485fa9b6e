use Rattle.std.proofs.Common.{◌≡◌, ◌+◌, length, take}
use Rattle.transcript.specs.Lines.{text_of}
use Rattle.report_text.specs.Slants.{slant_lines}
use Rattle.report_text.proofs.slants.slant_text.Given as goal

abbrev pub invariant-loop-slab : goal.invariant-loop-slab
invariant-loop-slab l = (l.body ≡ slant_lines l.scene (take l.slab-index l.slabs)) × (l.left + length (text_of l.body) ≡ l.room)
