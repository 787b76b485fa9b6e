use Rattle.std.proofs.Common.{All, subst}
use Rattle.shot_core.specs.Regions.{RegionBody, IsPlacedSolid}
use Rattle.shot_core.proofs.Placing.{all_placed}
use Rattle.shot_core.proofs.region.PrepRegion.solids.Goals as goal

pub returns-clause-placed : goal.returns-clause-placed
returns-clause-placed c = subst (λ (b : RegionBody). All IsPlacedSolid b.instances) c.self.view_is (all_placed c.self.inside.solids.items)
