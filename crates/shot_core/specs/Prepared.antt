-- How the types keep regions.
use Rattle.std.specs.Prelude.{◌≡◌, ℕ, List, Option, IfSome, length, map, refl}
use Rattle.tree_forms.specs.Trees.{leaves as leaves_of}
use Rattle.std.specs.Coded.{Coded, code_by, coded×, coded_ℕ, coded_list}
use Rattle.lattice_core.specs.declared.boxes.Box3.{Box3}
use Rattle.lattice_core.specs.contracts.boxes.Box3 as boxes
use Rattle.region_attr.specs.declared.attr.Rgb.{Rgb}
use Rattle.region_attr.specs.contracts.attr.Rgb as colours
use Rattle.solid_set.specs.declared.placed.Placed.{Placed}
use Rattle.solid_set.specs.declared.surface.Surface.{Surface}
use Rattle.solid_set.specs.contracts.surface.Surface as surfaces
use Rattle.bool_weave.specs.Masks.{Mask, mask_code}
use Rattle.shot_core.specs.Regions.{Instance, RegionBody, Region, HasLeavesBelow, HaveInstances, HavePlacedSolids, IsScene, firsts_from, instances_of}
use Rattle.shot_core.specs.TreeBoxes.{tree_box}

-- an instance as contracts see it: the surface of a placed solid and its box
abbrev pub instance_of : Placed → Instance
instance_of placed = record { surface = placed.surface; bounds = placed.bounds }

-- the boxes of instances, in their order
abbrev pub boxes_of : List Instance → List Box3
boxes_of instances = map (λ i. i.bounds) instances

-- what a body keeps beside what contracts see: its leaves stand for its instances, and its size and box are those of its tree
pub record IsPrepared (tree : Mask) (instances : List Instance) (size : ℕ) (bounds : Box3) : Type 0 where
  pub leaves : HasLeavesBelow (length instances) tree
  pub size_is : size ≡ length (leaves_of tree)
  pub bounds_is : bounds ≡ tree_box (boxes_of instances) tree

abbrev pub instance_code : Coded Instance
instance_code = code_by (Surface × Box3) (coded× surfaces.the_row.coded boxes.the_row.coded) (λ i. (i.surface, i.bounds)) (λ p. record { surface = p.0; bounds = p.1 }) (λ _. refl)

abbrev pub body_code : Coded RegionBody
body_code =
    code_by (ℕ × (ℕ × (Rgb × (Mask × List Instance)))) (coded× coded_ℕ (coded× coded_ℕ (coded× colours.the_row.coded (coded× mask_code (coded_list instance_code)))))
    (λ b. (b.id, (b.air, (b.rgb, (b.tree, b.instances)))))
    (λ p. record { id = p.0; air = p.1.0; rgb = p.1.1.0; tree = p.1.1.1.0; instances = p.1.1.1.1 }) (λ _. refl)

abbrev pub region_code : Coded Region
region_code =
    code_by (ℕ × (List ℕ × RegionBody)) (coded× coded_ℕ (coded× (coded_list coded_ℕ) body_code)) (λ r. (r.place, (r.path, r.body)))
    (λ p. record { place = p.0; path = p.1.0; body = p.1.1 }) (λ _. refl)

-- the boxes of regions, in their order
abbrev pub region_boxes : List Region → List Box3
region_boxes regions = map (λ r. tree_box (boxes_of r.body.instances) r.body.tree) regions

-- the scene is sound, its instances are solids that were placed, its regions' first instances are numbered, and their boxes are
-- those that are kept, as are those of the instances, where they are kept
pub record IsNumbered (regions : List Region) (firsts : List ℕ) (boxes : List Box3) (kept : Option (List Box3)) : Type 0 where
  pub sound : IsScene regions
  pub leaves : HaveInstances regions
  pub placed : HavePlacedSolids regions
  pub numbers : firsts ≡ firsts_from 0 regions
  pub boxes_are : boxes ≡ region_boxes regions
  pub kept_are : IfSome kept (λ of_instances. of_instances ≡ boxes_of (instances_of regions))
