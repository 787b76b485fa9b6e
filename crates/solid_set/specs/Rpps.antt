-- The box from the least to the greatest coordinates along each axis, as a solid of eight vertices.
use Rattle.std.specs.Prelude.{◌≡◌, List, Some, None, Result, Ok, Err}
use Rattle.lattice_core.specs.declared.vector.V3.{V3}
use Rattle.plane_geom.specs.declared.fault.ShapeFault.{ShapeFault}
use Rattle.prim_arb8.specs.Faces.{first_fault, cases_of}
use Rattle.solid_set.specs.declared.solid.Solid.{Solid}
use Rattle.solid_set.specs.declared.solid.Solid.TheVariants as solids
pub use Rattle.lattice_core.specs.Vectors.{vector}
pub use Rattle.prim_arb8.specs.Rpps.{rpp_vertices}

abbrev pub HasVertices : Solid → List V3 → Type 0
HasVertices (solids.Arb8 arb8) vertices = arb8.vertices ≡ vertices
HasVertices (solids.Sphere sphere) vertices = ⊥
HasVertices (solids.Half half) vertices = ⊥
HasVertices (solids.Rcc rcc) vertices = ⊥

-- the solid of eight vertices, or their first fault
abbrev pub IsArb8Of : Result Solid ShapeFault → List V3 → Type 0
IsArb8Of (Ok solid) vertices = (first_fault (cases_of vertices) ≡ None) × HasVertices solid vertices
IsArb8Of (Err fault) vertices = first_fault (cases_of vertices) ≡ Some fault
