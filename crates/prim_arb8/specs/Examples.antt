-- First faults of eight vertices, and a plane of a box, proved by computation.
use Rattle.std.specs.Prelude.{◌≡◌, refl, ℤ, pos, negsuc, List, [], ◌∷◌, Some, None}
use Rattle.lattice_core.specs.declared.vector.V3.{V3}
use Rattle.lattice_core.specs.Vectors.{vector}
use Rattle.plane_geom.specs.declared.fault.ShapeFault.TheVariants.{Flat, NotPlanar, NotConvex}
use Rattle.prim_arb8.specs.Faces.{first_fault, cases_of, plane_at}

-- a box of sides 10, with its vertex 3 somewhere else
abbrev with_third : ℤ → ℤ → ℤ → List V3
with_third x y z =
    vector (pos 0) (pos 0) (pos 0) ∷ vector (pos 10) (pos 0) (pos 0) ∷ vector x y z ∷ vector (pos 0) (pos 10) (pos 0)
    ∷ vector (pos 0) (pos 0) (pos 10) ∷ vector (pos 10) (pos 0) (pos 10) ∷ vector (pos 10) (pos 10) (pos 10) ∷ vector (pos 0) (pos 10) (pos 10) ∷ []

vertex_off_its_face : first_fault (cases_of (with_third (pos 10) (pos 10) (pos 1))) ≡ Some (NotPlanar 1)
vertex_off_its_face = refl

-- the vertices of a square, each of them twice
abbrev all_at_one_height : List V3
all_at_one_height =
    vector (pos 0) (pos 0) (pos 0) ∷ vector (pos 10) (pos 0) (pos 0) ∷ vector (pos 10) (pos 10) (pos 0) ∷ vector (pos 0) (pos 10) (pos 0)
    ∷ vector (pos 0) (pos 0) (pos 0) ∷ vector (pos 10) (pos 0) (pos 0) ∷ vector (pos 10) (pos 10) (pos 0) ∷ vector (pos 0) (pos 10) (pos 0) ∷ []

flat_vertices : first_fault (cases_of all_at_one_height) ≡ Some Flat
flat_vertices = refl

-- a prism over a square with one corner pushed in
abbrev pushed_in : List V3
pushed_in =
    vector (pos 0) (pos 0) (pos 0) ∷ vector (pos 10) (pos 0) (pos 0) ∷ vector (pos 3) (pos 3) (pos 0) ∷ vector (pos 0) (pos 10) (pos 0)
    ∷ vector (pos 0) (pos 0) (pos 10) ∷ vector (pos 10) (pos 0) (pos 10) ∷ vector (pos 3) (pos 3) (pos 10) ∷ vector (pos 0) (pos 10) (pos 10) ∷ []

dent : first_fault (cases_of pushed_in) ≡ Some (NotConvex 4)
dent = refl

no_fault : first_fault (cases_of (with_third (pos 10) (pos 10) (pos 0))) ≡ None
no_fault = refl

-- the lowest face looks down
plane_1 : plane_at (with_third (pos 10) (pos 10) (pos 0)) 1 ≡ Some (record { n = vector (pos 0) (pos 0) (negsuc 99); d = pos 0 })
plane_1 = refl
