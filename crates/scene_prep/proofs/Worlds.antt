-- Placements that take each point to the same place take a solid to the same one.
use Rattle.std.proofs.Common.{◌≡◌, List, [], ◌∷◌, refl}
use Rattle.lattice_core.specs.declared.vector.V3.{V3}
use Rattle.lattice_core.specs.declared.placement.Placement.{Placement}
use Rattle.lattice_core.specs.declared.boxes.Box3.{Box3}
use Rattle.solid_set.specs.declared.solid.Solid.{Solid}
use Rattle.solid_set.specs.declared.surface.Surface.{Surface}
use Rattle.solid_set.specs.Surfaces.{surface_of, bounds_of}
use Rattle.solid_set.specs.Placings.{point_under}
use Rattle.solid_set.proofs.PlacedAlike.{stands_under_one, stand_alike}
use Rattle.shot_core.specs.Regions.{Instance}
use Rattle.scene_prep.specs.Laws.{PlacementsAreOne}
use Rattle.scene_prep.specs.Solids.{PlacedSolid, in_world}

abbrev pub instance_by : Surface → Box3 → Instance
instance_by surface bounds = record { surface = surface; bounds = bounds }

instance_same : {s t : Surface} {b c : Box3} → s ≡ t → b ≡ c → instance_by s b ≡ instance_by t c
instance_same p q = λ i. instance_by (p i) (q i)

abbrev pub solid_under : Solid → List Placement → PlacedSolid
solid_under solid placements = record { solid = solid; placements = placements }

pub same_world : (solid : Solid) (ps qs : List Placement) → ((p : V3) → point_under ps p ≡ point_under qs p) → in_world (solid_under solid ps) ≡ in_world (solid_under solid qs)
same_world solid ps qs all =
    let same = stand_alike solid ps qs all in
    instance_same same.0 same.1

-- a solid that is placed by one placement
pub world_of_one : (solid : Solid) (by : Placement) → in_world (solid_under solid (by ∷ [])) ≡ instance_by (surface_of solid by) (bounds_of solid by)
world_of_one solid by =
    let one = stands_under_one solid (by ∷ []) by (λ p. refl) in
    instance_same one.0 one.1

pub placements_one : PlacementsAreOne
placements_one one by all = stands_under_one one.solid one.placements by all
