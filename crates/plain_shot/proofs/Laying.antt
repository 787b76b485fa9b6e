-- How many intervals and regions there are.
use Rattle.std.proofs.Common.{◌≡◌, ◌<◌, ◌+◌, ◌^◌, ℕ, List, [], ◌∷◌, length, refl, arith}
use Rattle.lattice_core.specs.declared.ray.Ray.{Ray}
use Rattle.bool_weave.specs.declared.woven.Woven.{Woven}
use Rattle.bool_weave.specs.Cuts.{cuts_of}
use Rattle.bool_weave.specs.Claims.{intervals_of}
use Rattle.bool_weave.proofs.Claimed.{intervals_length}
use Rattle.bool_weave.proofs.Kept.{few_cuts}
use Rattle.shot_core.specs.Regions.{Region, IsScene, instances_of}
use Rattle.shot_core.specs.Shots.{woven_of, claims_from, claims_on}
use Rattle.shot_core.proofs.Claiming.{regions_within}
use Rattle.shot_core.proofs.Weaving.{woven_short}

pub few_intervals : (rs : List Region) (ray : Ray) → IsScene rs → length (intervals_of (woven_of rs ray)) < 2 ^ 31
few_intervals rs ray scene =
    omega (arith, intervals_length (cuts_of (woven_of rs ray)), few_cuts (woven_of rs ray), woven_short ray 0 (instances_of rs), scene.instances)

claims_length : (woven : List Woven) (first : ℕ) (rs : List Region) → length (claims_from woven first rs) ≡ length rs
claims_length woven first [] = refl
claims_length woven first (r ∷ rs) = omega (arith, claims_length woven (first + length r.body.instances) rs)

pub few_regions : (rs : List Region) (ray : Ray) → IsScene rs → length (claims_on rs ray) < 2 ^ 31
few_regions rs ray scene = omega (arith, claims_length (woven_of rs ray) 0 rs, regions_within rs, scene.size)
