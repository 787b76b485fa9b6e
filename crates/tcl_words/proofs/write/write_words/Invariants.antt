use Rattle.std.proofs.Common.{◌≡◌, ◌++◌, drop}
use Rattle.tcl_words.specs.Pieces.{pieces, written_after, written}
use Rattle.tcl_words.proofs.write.write_words.Given as goal

abbrev pub invariant-loop-token : goal.invariant-loop-token
invariant-loop-token l = l.out.items ++ written_after l.last (pieces l.text (drop l.token-index l.words)) ≡ written l.text l.words
