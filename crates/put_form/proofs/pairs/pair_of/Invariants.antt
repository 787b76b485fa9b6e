use Rattle.std.proofs.Common.{◌≡◌, drop}
use Rattle.put_form.specs.Pairs as listed
use Rattle.put_form.proofs.pairs.pair_of.Given as goal

abbrev pub invariant-loop-pair : goal.invariant-loop-pair
invariant-loop-pair l = listed.pair_of l.key (drop l.pair-index l.pairs) ≡ listed.pair_of l.key l.pairs
