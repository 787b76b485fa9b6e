use Rattle.std.proofs.Common.{◌≡◌, ◌+◌, take}
use Rattle.std.specs.Prelude.{count_by}
use Rattle.tcl_words.specs.TopWords.{opens, closes, word_last}
use Rattle.tcl_words.proofs.groups.word_last.Given as goal

abbrev pub invariant-loop-last : goal.invariant-loop-last
invariant-loop-last l = record {
  counted : l.groups + count_by closes (take l.last l.tokens) ≡ count_by opens (take l.last l.tokens);
  later : word_last l.tokens l.first ≡ word_last l.tokens l.last;
}
