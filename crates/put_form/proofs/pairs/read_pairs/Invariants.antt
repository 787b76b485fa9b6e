use Rattle.std.proofs.Common.{◌≡◌, ◌≤◌, ◌+◌, ◌-◌, ◌++◌, length, drop}
use Rattle.std.specs.Option.{option_map}
use Rattle.put_form.specs.Pairs.{pairs_of}
use Rattle.put_form.specs.Steps.{HaveWords, HavePlaces}
use Rattle.put_form.proofs.pairs.read_pairs.Given as goal

abbrev pub invariant-loop-at : goal.invariant-loop-at
invariant-loop-at l = record {
  within : l.at ≤ length l.words;
  same : option_map (λ rest. l.pairs.items ++ rest) (pairs_of l.text l.tokens (l.place + l.at) (drop l.at l.words)) ≡ pairs_of l.text l.tokens l.place l.words;
  words : HaveWords l.tokens l.pairs.items;
  places : HavePlaces l.pairs.items;
}

abbrev pub decreases-loop-at : goal.decreases-loop-at
decreases-loop-at l = length l.words - l.at
