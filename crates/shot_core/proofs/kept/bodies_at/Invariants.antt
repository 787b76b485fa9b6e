use Rattle.std.proofs.Common.{◌≡◌, get_or, map, take}
use Rattle.std.specs.Arc.{arc_value}
use Rattle.shot_core.specs.Steps.{no_region}
use Rattle.shot_core.proofs.kept.bodies_at.Given as goal

abbrev pub invariant-loop-place : goal.invariant-loop-place
invariant-loop-place l = map arc_value l.bodies.items ≡ map (λ i. (get_or l.regions i no_region).body) (take l.place-index l.places)
