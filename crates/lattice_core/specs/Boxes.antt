-- Which points a closed box has. A point with rational coordinates is v / w: whole numerators over one positive w.
use Rattle.std.specs.Prelude.{◌≡◌, ◌↔◌, ◌⊎◌, ℤ, pos, ◌*ℤ◌, ◌≤ℤ◌, ◌<ℤ◌}
use Rattle.lattice_core.specs.declared.vector.V3.{V3}
use Rattle.lattice_core.specs.declared.boxes.Side.{Side}
use Rattle.lattice_core.specs.declared.boxes.Side.TheVariants.{Open, At}
use Rattle.lattice_core.specs.declared.extent.Extent.{Extent}
use Rattle.lattice_core.specs.declared.boxes.Box3.{Box3}
use Rattle.lattice_core.specs.declared.boxes.Box3.TheVariants.{Empty, Span}
use Rattle.lattice_core.specs.declared.ray.Ray.{Ray}
use Rattle.lattice_core.specs.Rays.{IsOnRay, scaled_point}

-- the low side is at most x / w
abbrev pub IsFrom : Side → ℤ → ℤ → Type 0
IsFrom Open x w = Unit {0}
IsFrom (At low) x w = (low *ℤ w) ≤ℤ x

-- x / w is at most the high side
abbrev pub IsUpTo : Side → ℤ → ℤ → Type 0
IsUpTo Open x w = Unit {0}
IsUpTo (At high) x w = x ≤ℤ (high *ℤ w)

-- x / w lies in the extent, between its sides
abbrev pub IsBetween : Extent → ℤ → ℤ → Type 0
IsBetween extent x w = IsFrom extent.low x w × IsUpTo extent.high x w

-- the box has the point v / w: its three coordinates lie in the box's extents
abbrev pub HasPoint : Box3 → V3 → ℤ → Type 0
HasPoint Empty v w = ⊥
HasPoint (Span x y z) v w = IsBetween x v.x w × IsBetween y v.y w × IsBetween z v.z w

-- the box has some point
pub record HasSome (b : Box3) : Type 0 where
  pub v : V3
  pub w : ℤ
  pub positive : pos 0 <ℤ w
  pub inside : HasPoint b v w

-- a box without points is the empty one
abbrev pub IsTidy : Box3 → Type 0
IsTidy b = HasSome b ⊎ (b ≡ Empty)

-- every point of the inner box is one of the outer box
abbrev pub IsInside : Box3 → Box3 → Type 0
IsInside inner outer = (v : V3) (w : ℤ) → pos 0 <ℤ w → HasPoint inner v w → HasPoint outer v w

-- the least of the boxes that hold both
pub record IsHull (hull a b : Box3) : Type 0 where
  pub first : IsInside a hull
  pub second : IsInside b hull
  pub least : (other : Box3) → IsInside a other → IsInside b other → IsInside hull other

-- the box of the points that lie in both
abbrev pub IsMeet : Box3 → Box3 → Box3 → Type 0
IsMeet both a b = (v : V3) (w : ℤ) → pos 0 <ℤ w → HasPoint both v w ↔ (HasPoint a v w × HasPoint b v w)

-- some point of the ray lies in the box
pub record MeetsRay (b : Box3) (ray : Ray) : Type 0 where
  pub p : ℤ
  pub q : ℤ
  pub on_ray : IsOnRay p q
  pub inside : HasPoint b (scaled_point ray p q) q

-- some point lies in both
pub record Meets (a b : Box3) : Type 0 where
  pub v : V3
  pub w : ℤ
  pub positive : pos 0 <ℤ w
  pub in_first : HasPoint a v w
  pub in_second : HasPoint b v w

-- the point v / w lies on the ray
pub record IsRayPoint (ray : Ray) (v : V3) (w : ℤ) : Type 0 where
  pub p : ℤ
  pub on_ray : IsOnRay p w
  pub is : v ≡ scaled_point ray p w

-- the points of the box are those of the ray
abbrev pub IsRayBox : Box3 → Ray → Type 0
IsRayBox b ray = (v : V3) (w : ℤ) → pos 0 <ℤ w → HasPoint b v w ↔ IsRayPoint ray v w
