use Rattle.std.proofs.Common.{◌≡◌, All, length}
use Rattle.bool_weave.specs.Claims.{intervals_of}
use Rattle.ray_cases.proofs.settling.regions_of.Given as goal

abbrev pub invariant-loop-item : goal.invariant-loop-item
invariant-loop-item l = All (λ r. length r.claims ≡ length (intervals_of l.weave)) l.regions.items
