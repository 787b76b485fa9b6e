use Rattle.std.proofs.Common.{◌≡◌, drop}
use Rattle.put_form.specs.CombSteps.{are_keys}
use Rattle.put_form.proofs.comb_keys.are_keys.Given as goal

abbrev pub invariant-loop-i : goal.invariant-loop-i
invariant-loop-i l = are_keys (drop l.i l.pairs) ≡ are_keys l.pairs
