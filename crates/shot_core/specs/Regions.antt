-- Regions that were prepared, and the scene that they make.
use Rattle.std.specs.Prelude.{◌≢◌, ◌≤◌, ◌<◌, ◌+◌, ◌==◌, ℕ, List, [], ◌∷◌, Bool, not, IfSome, All, AllPairs, length, map, flat_map}
use Rattle.lattice_core.specs.declared.boxes.Box3.{Box3}
use Rattle.region_attr.specs.declared.attr.Rgb.{Rgb}
use Rattle.tree_forms.specs.Trees.{leaves}
use Rattle.bool_weave.specs.Masks.{Mask}
use Rattle.solid_set.specs.declared.surface.Surface.{Surface}
use Rattle.solid_set.specs.Surfaces.{IsMade}
use Rattle.shot_core.specs.declared.limit.TheConstants.{MOST_LEAVES}

-- an instance: a solid where it stands in the world, by its surface and its box
pub record Instance : Type 0 where
  pub surface : Surface
  pub bounds : Box3

-- what a region is wherever it stands in a scene. Leaf i of its tree is its instance i; a leaf without a number is a missing
-- member or an empty combination, which is always false
pub record RegionBody : Type 0 where
  pub id : ℕ
  pub air : ℕ
  pub rgb : Rgb
  pub tree : Mask
  pub instances : List Instance

-- a report prints a path on one line, so it has no line feed
abbrev pub IsPathText : List ℕ → Type 0
IsPathText path = All (λ byte. byte ≢ 10) path

-- a body with its place in a scene and the path of names that leads to it
pub record Region : Type 0 where
  pub place : ℕ
  pub path : List ℕ
  pub body : RegionBody

-- a region whose air has a number is one of air
abbrev pub has_air : RegionBody → Bool
has_air body = not (body.air == 0)

-- how many leaves a body's tree has, those that are always false too
abbrev pub size_of : RegionBody → ℕ
size_of body = length (leaves body.tree)

-- the instances of all regions, from left to right: an instance's number is its place in this list
abbrev pub instances_of : List Region → List Instance
instances_of regions = flat_map (λ r. r.body.instances) regions

abbrev pub total_of : List ℕ → ℕ
total_of [] = 0
total_of (n ∷ ns) = n + total_of ns

-- the size of all bodies together
abbrev pub size_of_all : List Region → ℕ
size_of_all regions = total_of (map (λ r. size_of r.body) regions)

-- each leaf that has a number is one of so many instances
abbrev pub HasLeavesBelow : ℕ → Mask → Type 0
HasLeavesBelow count tree = All (λ leaf. IfSome leaf (λ i. i < count)) (leaves tree)

-- the leaves of each region's tree stand for its instances
abbrev pub HaveInstances : List Region → Type 0
HaveInstances regions = All (λ r. HasLeavesBelow (length r.body.instances) r.body.tree) regions

-- an instance is what some lawful solid is where a placement within the limits puts it
abbrev pub IsPlacedSolid : Instance → Type 0
IsPlacedSolid instance = ∥ IsMade instance.surface instance.bounds ∥₁

-- the instances of each region are such
abbrev pub HavePlacedSolids : List Region → Type 0
HavePlacedSolids regions = All (λ r. All IsPlacedSolid r.body.instances) regions

-- the places of regions rise from at least 1, and their bodies are not too large
pub record IsScene (regions : List Region) : Type 0 where
  pub rising : AllPairs (λ r s. r.place < s.place) regions
  pub begun : All (λ r. 1 ≤ r.place) regions
  pub size : size_of_all regions ≤ MOST_LEAVES
  pub instances : length (instances_of regions) ≤ MOST_LEAVES

-- the number of each region's first instance
abbrev pub firsts_from : ℕ → List Region → List ℕ
firsts_from first [] = []
firsts_from first (r ∷ rest) = first ∷ firsts_from (first + length r.body.instances) rest
