-- What was placed stays a placed solid where it is seen as an instance.
use Rattle.std.proofs.Common.{List, All, map, get_or}
use Rattle.std.proofs.lemmas.List.Elements.{All-map}
use Rattle.solid_set.specs.declared.placed.Placed.{Placed}
use Rattle.shot_core.specs.Regions.{IsPlacedSolid}
use Rattle.shot_core.specs.Prepared.{instance_of}

pub all_placed : (solids : List Placed) → All IsPlacedSolid (map instance_of solids)
all_placed solids = All-map IsPlacedSolid instance_of solids (λ k d lt. (get_or solids k d).made)
