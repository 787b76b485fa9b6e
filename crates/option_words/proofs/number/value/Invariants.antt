use Rattle.std.proofs.Common.{◌≡◌, ◌<◌, ◌^◌, take}
use Rattle.option_words.specs.Numbers.{value}
use Rattle.option_words.proofs.number.value.Given as goal

abbrev pub invariant-loop-digit : goal.invariant-loop-digit
invariant-loop-digit l = record {
  is : l.value ≡ value (take l.digit-index l.digits);
  small : l.value < 10 ^ l.digit-index;
}
