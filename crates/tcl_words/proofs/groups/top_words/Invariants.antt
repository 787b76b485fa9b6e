use Rattle.std.proofs.Common.{◌≡◌, ◌≤◌, ◌-◌, length}
use Rattle.std.specs.Prelude.{filter_map}
use Rattle.std.specs.List.{range_with_len}
use Rattle.tcl_words.specs.TopWords.{level, word_at}
use Rattle.tcl_words.proofs.groups.top_words.Given as goal

abbrev pub invariant-loop-first : goal.invariant-loop-first
invariant-loop-first l = record {
  within : l.first ≤ length l.tokens;
  outside : level l.tokens l.first ≡ 0;
  words : l.found.items ≡ filter_map (word_at l.tokens) (range_with_len 0 l.first);
}

abbrev pub decreases-loop-first : goal.decreases-loop-first
decreases-loop-first l = length l.tokens - l.first
