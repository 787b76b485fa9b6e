-- What lies at the points of a ray in a lattice direction, without segments: which solids hold a point, what the trees of regions
-- make of that, and which region wins there. Of all lists of slabs that are in order, the partitions of the ray are the only one that
-- has at each point what lies there, slant hits aside, of which nothing is said.
use Rattle.std.specs.Prelude.{◌≡◌, ◌≢◌, ◌↔◌, ◌⊎◌, ◌<◌, ℕ, ℤ, pos, ◌<ℤ◌, List, ◌∷◌, Option, Some, None, All, AllPairs, Any, Contains, length, flat_map, slice_get}
use Rattle.lattice_core.specs.declared.vector.V3.{V3}
use Rattle.plane_geom.specs.Chords.{length_squared}
use Rattle.shot_core.specs.Points.{TreeHolds, WinsAgainst}
use Rattle.shot_core.specs.Regions.{Instance, RegionBody, Region, HaveInstances, instances_of}
use Rattle.solid_set.specs.PlacedFaces.{IsInsideAlong}
use Rattle.surd_quot.specs.declared.position.QPos.{QPos}
use Rattle.surd_quot.specs.declared.position.QPos.TheVariants.{Frac}
use Rattle.surd_quot.specs.Spelling.{IsSpelledQuotient}
use Rattle.oblique_ray.specs.declared.slab.Slab.{Slab}
use Rattle.oblique_ray.specs.Cuts.{surface_cut}
use Rattle.oblique_ray.specs.Places.{Before, AtOnePlace, IsAtOneOf, IsOnSlant}
use Rattle.oblique_ray.specs.Segments.{slant_start, slant_end}
use Rattle.oblique_ray.specs.Shots.{slabs_up_to}

-- the slant hits of a ray: where it begins, where it ends, and where it crosses or touches a face of an instance
abbrev pub ray_hits : ℤ → List Region → V3 → V3 → List QPos
ray_hits far regions o e = slant_start ∷ slant_end far ∷ flat_map (λ i. (surface_cut i.surface o e).met) (instances_of regions)

-- a place is at a slant hit of the ray
abbrev pub IsRayHit : ℤ → List Region → V3 → V3 → QPos → Type 0
IsRayHit far regions o e x = IsAtOneOf (ray_hits far regions o e) x

-- there is such an instance, and the point of the line at the fraction p / q lies inside of it
abbrev pub IsInSolid : Option Instance → V3 → V3 → ℤ → ℤ → Type 0
IsInSolid None o e p q = ⊥
IsInSolid (Some i) o e p q = IsInsideAlong i.surface o e p q

-- the tree of a region holds at the point, a leaf saying whether the point lies inside of its instance
abbrev pub TreeHoldsAt : RegionBody → V3 → V3 → ℤ → ℤ → Type 0
TreeHoldsAt body o e p q = TreeHolds body.tree (λ i. IsInSolid (slice_get body.instances i) o e p q)

-- the region of a number is what lies at the point: its tree holds there, and that of no region that wins against it
pub record IsThere (regions : List Region) (o e : V3) (p q : ℤ) (n : ℕ) : Type 0 where
  pub region : Region
  pub there : slice_get regions n ≡ Some region
  pub holds : TreeHoldsAt region.body o e p q
  pub wins : (s : Region) → Contains regions s → WinsAgainst s region → ¬ (TreeHoldsAt s.body o e p q)

-- a slab has a place where it neither starts after it nor ends before it
pub record IsOnSlab (s : Slab) (x : QPos) : Type 0 where
  pub begun : ¬ (Before x s.start)
  pub not_ended : ¬ (Before s.end x)

-- some slab of the region of a number has the place
abbrev pub HasSlabAt : List Slab → ℕ → QPos → Type 0
HasSlabAt slabs n x = Any (λ s. (s.region ≡ n) × IsOnSlab s x) slabs

-- at every fraction of the ray that is at no slant hit, the list has just the region that lies there
abbrev pub TellsSlantPoints : ℤ → List Region → V3 → V3 → List Slab → Type 0
TellsSlantPoints far regions o e slabs =
    (p q : ℤ) (n : ℕ) → IsOnSlant far p q → ¬ (IsRayHit far regions o e (Frac p q)) → HasSlabAt slabs n (Frac p q) ↔ IsThere regions o e p q n

-- a slab lies on a ray of so many steps, it starts before it ends, and its ends are in their one spelling
pub record IsSlab (far : ℤ) (s : Slab) : Type 0 where
  pub forward : Before s.start s.end
  pub begun : ¬ (Before s.start slant_start)
  pub not_ended : ¬ (Before (slant_end far) s.end)
  pub start_spelled : IsSpelledQuotient s.start
  pub end_spelled : IsSpelledQuotient s.end

-- one slab ends before another one starts, or just there, and then they are of different regions
abbrev pub SlabEndsBefore : Slab → Slab → Type 0
SlabEndsBefore s t = Before s.end t.start ⊎ (AtOnePlace s.end t.start × (s.region ≢ t.region))

-- slabs of so many regions, in order: they do not overlap, and none is the continuation of another
pub record AreSlabs (far : ℤ) (count : ℕ) (slabs : List Slab) : Type 0 where
  pub numbers : All (λ s. s.region < count) slabs
  pub each : All (IsSlab far) slabs
  pub apart : AllPairs SlabEndsBefore slabs

-- such a list that tells what lies at the points of a ray, and the only one that does
pub record IsTrueOfSlant (far : ℤ) (regions : List Region) (o e : V3) (slabs : List Slab) : Type 0 where
  pub ordered : AreSlabs far (length regions) slabs
  pub tells : TellsSlantPoints far regions o e slabs
  pub alone : (others : List Slab) → AreSlabs far (length regions) others → TellsSlantPoints far regions o e others → others ≡ slabs

-- the partitions of a ray tell what lies at its points, and no other list does, whatever the regions are whose places rise and whose
-- leaves stand for their instances
abbrev pub SlabsTellPoints : Type 0
SlabsTellPoints = (far : ℤ) (regions : List Region) (o e : V3) → pos 0 <ℤ far → pos 0 <ℤ length_squared e → AllPairs (λ r s. r.place < s.place) regions → HaveInstances regions
    → IsTrueOfSlant far regions o e (slabs_up_to far regions o e)
