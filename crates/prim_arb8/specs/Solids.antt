-- Solids of eight vertices.
use Rattle.std.specs.Prelude.{◌≡◌, List, None, All, length}
use Rattle.lattice_core.specs.declared.limit.TheConstants.{COORD}
use Rattle.lattice_core.specs.declared.vector.V3.{V3}
use Rattle.lattice_core.specs.Limits.{IsWithin}
use Rattle.prim_arb8.specs.Faces.{first_fault, cases_of}

-- the vertices 1 to 8
pub record EightVertices : Type 0 where
  pub vertices : List V3

-- the solid has eight vertices and no fault, and its coordinates are at most COORD in size
pub record IsArb8 (vertices : List V3) : Type 0 where
  pub eight : length vertices ≡ 8
  pub size : All (IsWithin COORD) vertices
  pub sound : first_fault (cases_of vertices) ≡ None
