use Rattle.std.proofs.Common.{All, take}
use Rattle.text_laws.specs.TextAgain.{IsEntryAgain}
use Rattle.text_laws.proofs.text.recall_lines.Given as goal

abbrev pub invariant-loop-place : goal.invariant-loop-place
invariant-loop-place l = All IsEntryAgain (take l.place l.directory.objects)
