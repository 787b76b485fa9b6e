use Rattle.std.proofs.Common.{◌≡◌, map}
use Rattle.view_shot.specs.declared.work.Shot.TheVariants.{Pairs}
use Rattle.view_shot.proofs.flight.into_pairs.Given as goal

abbrev pub invariant-loop-shot : goal.invariant-loop-shot
invariant-loop-shot l = map Pairs l.pairs.items ≡ l.yielded
