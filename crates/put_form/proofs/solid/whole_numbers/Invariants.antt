use Rattle.std.proofs.Common.{◌≡◌, map, take, length}
use Rattle.put_form.specs.SolidSteps.{or_zero}
use Rattle.put_form.proofs.solid.whole_numbers.Given as goal

abbrev pub invariant-loop-i : goal.invariant-loop-i
invariant-loop-i l = record {
  room : length l.whole ≡ 24;
  numbers : take l.i l.whole ≡ map or_zero (take l.i l.numbers);
}
