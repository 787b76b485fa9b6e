-- What lies at the points of a ray, without segments: which solids hold a point, what the trees of regions make of that, and
-- which region wins there. Of all lists of stretches that are in order, the partitions of the ray are the only one that has at each
-- point what lies there, hit places aside, of which nothing is said. A hit place is a place on the ray, and no hit in the sense of an
-- instance and a face.
use Rattle.std.specs.Prelude.{◌≡◌, ◌≢◌, ◌↔◌, ◌⊎◌, ◌<◌, ℕ, ℤ, List, ◌∷◌, Option, Some, None, true, false, All, AllPairs, Any, Contains, length, map, flat_map, slice_get}
use Rattle.lattice_core.specs.declared.ray.Ray.{Ray}
use Rattle.lattice_core.specs.Rays.{IsOnRay}
use Rattle.surd_order.specs.declared.position.Pos.{Pos}
use Rattle.surd_order.specs.declared.position.Pos.TheVariants.{Frac}
use Rattle.surd_order.specs.Order.{Precedes, SamePlace}
use Rattle.surd_order.specs.Spelling.{IsSpelled}
use Rattle.tree_forms.specs.declared.Op.TheVariants.{U, N, Minus, X}
use Rattle.tree_forms.specs.Trees.{Leaf, Join}
use Rattle.solid_set.specs.HitPlaces.{surface_places, IsAtOneOf}
use Rattle.solid_set.specs.Segments.{ray_start, ray_end}
use Rattle.solid_set.specs.Surfaces.{IsInside}
use Rattle.bool_weave.specs.Masks.{Mask}
use Rattle.shot_core.specs.declared.shot.Lit.{Lit}
use Rattle.shot_core.specs.Regions.{Instance, RegionBody, Region, HaveInstances, has_air, instances_of}
use Rattle.shot_core.specs.Shots.{lit_of}

-- the hit places of a ray: where it begins, where it ends, and where it crosses the surface of an instance
abbrev pub ray_places : List Region → Ray → List Pos
ray_places regions ray = ray_start ∷ ray_end ∷ flat_map (λ i. surface_places i.surface ray) (instances_of regions)

-- a position is at a hit place of the ray
abbrev pub IsRayHitPlace : List Region → Ray → Pos → Type 0
IsRayHitPlace regions ray x = IsAtOneOf (ray_places regions ray) x

-- a tree holds, where each of its leaves that has a number brings what it says; one without a number never holds
abbrev pub TreeHolds : Mask → (ℕ → Type 0) → Type 0
TreeHolds (Leaf None) says = ⊥
TreeHolds (Leaf (Some i)) says = says i
TreeHolds (Join U left right) says = TreeHolds left says ⊎ TreeHolds right says
TreeHolds (Join N left right) says = TreeHolds left says × TreeHolds right says
TreeHolds (Join Minus left right) says = TreeHolds left says × ¬ (TreeHolds right says)
TreeHolds (Join X left right) says = (TreeHolds left says × ¬ (TreeHolds right says)) ⊎ (¬ (TreeHolds left says) × TreeHolds right says)

-- there is such an instance, and the point of the ray at the fraction p / q lies inside of it
abbrev pub IsInInstance : Option Instance → Ray → ℤ → ℤ → Type 0
IsInInstance None ray p q = ⊥
IsInInstance (Some i) ray p q = IsInside i.surface ray p q

-- the tree of a region holds at the point, a leaf saying whether the point lies inside of its instance
abbrev pub HoldsPoint : RegionBody → Ray → ℤ → ℤ → Type 0
HoldsPoint body ray p q = TreeHolds body.tree (λ i. IsInInstance (slice_get body.instances i) ray p q)

-- of two regions one without air wins against one with air, and else the one of the lower place in the scene
abbrev pub WinsAgainst : Region → Region → Type 0
WinsAgainst s r = ((has_air s.body ≡ false) × (has_air r.body ≡ true)) ⊎ ((has_air s.body ≡ has_air r.body) × (s.place < r.place))

-- the region of a number, its place in the list counted from 0, is what lies at the point: its tree holds there, and that of no region
-- that wins against it
pub record LiesAt (regions : List Region) (ray : Ray) (p q : ℤ) (n : ℕ) : Type 0 where
  pub region : Region
  pub there : slice_get regions n ≡ Some region
  pub holds : HoldsPoint region.body ray p q
  pub wins : (s : Region) → Contains regions s → WinsAgainst s region → ¬ (HoldsPoint s.body ray p q)

-- a region, by its number, and a part of the ray
pub record Stretch : Type 0 where
  pub region : ℕ
  pub start : Pos
  pub end : Pos

-- what a partition has, without its hit and its level
abbrev pub stretch_of : Lit → Stretch
stretch_of lit = record { region = lit.region; start = lit.start; end = lit.end }

-- the stretches of partitions, in their order
abbrev pub stretches_of : List Lit → List Stretch
stretches_of lit = map stretch_of lit

-- a stretch has a position where it neither starts after it nor ends before it
pub record HasPosition (s : Stretch) (x : Pos) : Type 0 where
  pub begun : ¬ (Precedes x s.start)
  pub not_ended : ¬ (Precedes s.end x)

-- some stretch of the region of a number has the position
abbrev pub HasRegionAt : List Stretch → ℕ → Pos → Type 0
HasRegionAt stretches n x = Any (λ s. (s.region ≡ n) × HasPosition s x) stretches

-- at every fraction of the ray that is at no hit place, the list has just the region that lies there
abbrev pub TellsPoints : List Region → Ray → List Stretch → Type 0
TellsPoints regions ray stretches = (p q : ℤ) (n : ℕ) → IsOnRay p q → ¬ (IsRayHitPlace regions ray (Frac p q)) → HasRegionAt stretches n (Frac p q) ↔ LiesAt regions ray p q n

-- a stretch lies on the ray, it starts before it ends, and its ends are in their one spelling
pub record IsStretch (s : Stretch) : Type 0 where
  pub forward : Precedes s.start s.end
  pub begun : ¬ (Precedes s.start ray_start)
  pub not_ended : ¬ (Precedes ray_end s.end)
  pub start_spelled : IsSpelled s.start
  pub end_spelled : IsSpelled s.end

-- one stretch ends before another one starts, or just there, and then they are of different regions
abbrev pub EndsBefore : Stretch → Stretch → Type 0
EndsBefore s t = Precedes s.end t.start ⊎ (SamePlace s.end t.start × (s.region ≢ t.region))

-- stretches of so many regions, in order: they do not overlap, and none is the continuation of another
pub record AreStretches (count : ℕ) (stretches : List Stretch) : Type 0 where
  pub numbers : All (λ s. s.region < count) stretches
  pub each : All IsStretch stretches
  pub apart : AllPairs EndsBefore stretches

-- such a list that tells what lies at the points of a ray, and the only one that does
pub record IsTrueOfPoints (regions : List Region) (ray : Ray) (stretches : List Stretch) : Type 0 where
  pub ordered : AreStretches (length regions) stretches
  pub tells : TellsPoints regions ray stretches
  pub alone : (others : List Stretch) → AreStretches (length regions) others → TellsPoints regions ray others → others ≡ stretches

-- the partitions of every ray tell what lies at its points, and no other list does, whatever the regions are whose places rise and whose
-- leaves stand for their instances
abbrev pub PartitionsTellPoints : Type 0
PartitionsTellPoints = (regions : List Region) (ray : Ray) → AllPairs (λ r s. r.place < s.place) regions → HaveInstances regions → IsTrueOfPoints regions ray (stretches_of (lit_of regions ray))
