-- The planes of a solid of eight vertices in the world.
use Rattle.std.specs.Prelude.{List, map, Option}
use Rattle.std.specs.Option.{option_map}
use Rattle.lattice_core.specs.declared.placement.Placement.{Placement}
use Rattle.plane_geom.specs.declared.plane.Plane.{Plane}
use Rattle.plane_geom.specs.Planes.{placed_plane}

-- each face keeps its number
abbrev pub placed_sides : Placement → List (Option Plane) → List (Option Plane)
placed_sides by sides = map (option_map (placed_plane by)) sides
