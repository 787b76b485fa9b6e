-- What the faces of a solid of eight vertices are, in the words of geometry.
use Rattle.std.specs.Prelude.{◌≡◌, ◌≢◌, ◌↔◌, ◌-◌, ◌≤◌, ℕ, pos, ◌≤ℤ◌, List, [], ◌∷◌, Option, All, IsNone, slice_index_or}
use Rattle.std.specs.List.{Any}
use Rattle.std.specs.Option.{ForSome, IsSomeAnd}
use Rattle.lattice_core.specs.declared.vector.V3.{V3}
use Rattle.lattice_core.specs.declared.ray.Dir.{Dir}
use Rattle.lattice_core.specs.declared.ray.Dir.TheVariants.{PlusX, MinusX, PlusY, MinusY, PlusZ, MinusZ}
use Rattle.lattice_core.specs.Units.{unit_of}
use Rattle.lattice_core.specs.Vectors.{zero_vector}
use Rattle.plane_geom.specs.declared.plane.Plane.{Plane}
use Rattle.plane_geom.specs.Planes.{AreOnOneLine, LiesIn, height_over}
use Rattle.prim_arb8.specs.Faces.{corners_of}

-- some plane, whose normal is not zero, has every point
pub record IsFlat (points : List V3) : Type 0 where
  pub plane : Plane
  pub direction : plane.n ≢ zero_vector
  pub holds : All (λ p. LiesIn p plane) points

-- every three of the points lie on one line
abbrev pub AreCollinear : List V3 → Type 0
AreCollinear points = All (λ a. All (λ b. All (λ c. AreOnOneLine a b c) points) points) points

-- no vertex lies strictly beyond the plane, and some vertex lies in it
pub record IsOutward (vertices : List V3) (plane : Plane) : Type 0 where
  pub bounds : All (λ p. height_over plane p ≤ℤ pos 0) vertices
  pub touches : Any (λ p. LiesIn p plane) vertices

-- the plane has the corners of a face, and points out of the solid
pub record IsPlaneOf (vertices corners : List V3) (plane : Plane) : Type 0 where
  pub direction : plane.n ≢ zero_vector
  pub corners_in : All (λ p. LiesIn p plane) corners
  pub outward : IsOutward vertices plane

-- a face whose corners are on one line has no plane, and any other one has the plane of its corners
pub record IsSide (vertices corners : List V3) (side : Option Plane) : Type 0 where
  pub degenerate : IsNone side ↔ AreCollinear corners
  pub flat : ForSome side (IsPlaneOf vertices corners)

-- the directions in which the faces 7 to 12 look
abbrev pub box_directions : List Dir
box_directions = PlusX ∷ MinusX ∷ PlusY ∷ MinusY ∷ PlusZ ∷ MinusZ ∷ []

-- the plane looks in the direction and touches the vertices
pub record IsBoxSide (vertices : List V3) (dir : Dir) (plane : Plane) : Type 0 where
  pub normal : plane.n ≡ unit_of dir
  pub outward : IsOutward vertices plane

-- the faces 1 to 6 are those of the corners, and the faces 7 to 12 are those of the box of the vertices
pub record IsFaceLaw (vertices : List V3) (face : ℕ) (side : Option Plane) : Type 0 where
  pub faces : face ≤ 6 → IsSide vertices (corners_of vertices face) side
  pub boxes : 7 ≤ face → IsSomeAnd side (IsBoxSide vertices (slice_index_or box_directions (face - 7) PlusX))
