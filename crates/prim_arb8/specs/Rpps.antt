-- The box from the least to the greatest coordinates along each axis, as a solid of eight vertices.
use Rattle.std.specs.Prelude.{◌≡◌, ℤ, List, [], ◌∷◌, Some, None, Result, Ok, Err}
use Rattle.lattice_core.specs.declared.vector.V3.{V3}
use Rattle.lattice_core.specs.Vectors.{vector}
use Rattle.plane_geom.specs.declared.fault.ShapeFault.{ShapeFault}
use Rattle.prim_arb8.specs.Faces.{first_fault, cases_of}
use Rattle.prim_arb8.specs.Solids.{EightVertices}

-- vertices 1 to 4 at the least x, and 5 to 8 at the greatest
abbrev pub rpp_vertices : ℤ → ℤ → ℤ → ℤ → ℤ → ℤ → List V3
rpp_vertices xmin xmax ymin ymax zmin zmax =
    vector xmin ymin zmin ∷ vector xmin ymax zmin ∷ vector xmin ymax zmax ∷ vector xmin ymin zmax
    ∷ vector xmax ymin zmin ∷ vector xmax ymax zmin ∷ vector xmax ymax zmax ∷ vector xmax ymin zmax ∷ []

-- the solid of eight vertices, or their first fault
abbrev pub IsMadeOf : Result EightVertices ShapeFault → List V3 → Type 0
IsMadeOf (Ok arb8) vertices = (first_fault (cases_of vertices) ≡ None) × (arb8.vertices ≡ vertices)
IsMadeOf (Err fault) vertices = first_fault (cases_of vertices) ≡ Some fault
