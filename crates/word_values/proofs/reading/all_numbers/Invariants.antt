use Rattle.std.proofs.Common.{◌≡◌, ◌++◌, take, drop, length}
use Rattle.std.specs.Option.{option_map}
use Rattle.word_values.specs.Atoms.{all_numbers}
use Rattle.word_values.proofs.reading.all_numbers.Given as goal

abbrev pub invariant-loop-i : goal.invariant-loop-i
invariant-loop-i l = record {
  whole : length l.found ≡ 16;
  same : option_map (λ rest. take l.i l.found ++ rest) (all_numbers (drop l.i l.numbers)) ≡ all_numbers l.numbers;
}
