-- The directions as vectors.
use Rattle.std.specs.Prelude.{pos, negsuc}
use Rattle.lattice_core.specs.declared.vector.V3.{V3}
use Rattle.lattice_core.specs.declared.ray.Dir.{Dir}
use Rattle.lattice_core.specs.declared.ray.Dir.TheVariants.{PlusX, MinusX, PlusY, MinusY, PlusZ, MinusZ}

-- the vector of length 1 in a direction
abbrev pub unit_of : Dir → V3
unit_of PlusX = record { x = pos 1; y = pos 0; z = pos 0 }
unit_of MinusX = record { x = negsuc 0; y = pos 0; z = pos 0 }
unit_of PlusY = record { x = pos 0; y = pos 1; z = pos 0 }
unit_of MinusY = record { x = pos 0; y = negsuc 0; z = pos 0 }
unit_of PlusZ = record { x = pos 0; y = pos 0; z = pos 1 }
unit_of MinusZ = record { x = pos 0; y = pos 0; z = negsuc 0 }
