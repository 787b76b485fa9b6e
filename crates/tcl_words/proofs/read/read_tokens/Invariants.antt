use Rattle.std.proofs.Common.{◌≡◌, ◌≤◌, ◌-◌, length}
use Rattle.std.specs.Prelude.{filter_map}
use Rattle.std.specs.List.{range_with_len}
use Rattle.tcl_words.specs.Tokens.{token_at}
use Rattle.tcl_words.specs.ReadingSteps.{IsAt, NoFaults}
use Rattle.tcl_words.proofs.read.read_tokens.Given as goal

abbrev pub invariant-loop-place : goal.invariant-loop-place
invariant-loop-place l = record {
  within : l.place ≤ length l.text;
  at : IsAt l.text l.place l.groups l.last;
  fine : NoFaults l.text 0 l.place;
  tokens : l.found.items ≡ filter_map (token_at l.text) (range_with_len 0 l.place);
}

abbrev pub decreases-loop-place : goal.decreases-loop-place
decreases-loop-place l = length l.text - l.place
