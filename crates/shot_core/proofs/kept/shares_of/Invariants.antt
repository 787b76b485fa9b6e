use Rattle.std.proofs.Common.{◌≡◌, get_or, map, take}
use Rattle.shot_core.specs.Steps.{no_region}
use Rattle.shot_core.proofs.kept.shares_of.Given as goal

abbrev pub invariant-loop-place : goal.invariant-loop-place
invariant-loop-place l = l.kept.items ≡ map (λ i. get_or l.regions i no_region) (take l.place-index l.places)
