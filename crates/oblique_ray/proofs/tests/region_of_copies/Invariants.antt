use Rattle.std.proofs.Common.{◌≡◌, length}
use Rattle.oblique_ray.proofs.tests.region_of_copies.Given as goal

abbrev pub invariant-loop : goal.invariant-loop
invariant-loop l = length l.solids.items ≡ l.counter
