use Rattle.std.proofs.Common.{◌≡◌, map, take}
use Rattle.shot_core.specs.Steps.{numbered_claims}
use Rattle.oblique_ray.proofs.shot.claims_of_all.Given as goal

abbrev pub invariant-loop-number : goal.invariant-loop-number
invariant-loop-number l = l.all.items ≡ map (numbered_claims l.weave l.scene) (take l.number-index l.numbers)
