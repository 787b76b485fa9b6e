-- How bright a face is where a ray meets it.
use Rattle.std.specs.Prelude.{◌≡◌, ◌⊎◌, ℕ, ◌-◌, ◌==◌, cond, Option, Some, None, slice_index_or}
use Rattle.lattice_core.specs.declared.ray.Ray.{Ray}
use Rattle.plane_geom.specs.declared.plane.Plane.{Plane}
use Rattle.plane_geom.specs.Planes.{level_of, side_level}
use Rattle.prim_sphere.specs.Spheres.{chord_at, chord_level}
use Rattle.prim_rcc.specs.Cylinders.{face_level as cylinder_level}
use Rattle.solid_set.specs.declared.surface.Surface.TheVariants.{Planes, HalfSpace, Ball, Cylinder}
use Rattle.surd_order.specs.declared.position.Seg.{Seg}
use Rattle.solid_set.specs.declared.surface.Surface.{Surface}
use Rattle.solid_set.specs.Segments.{sides_of, segment_of}

-- the plane of a face
abbrev pub side_at : Surface → ℕ → Option Plane
side_at surface face = slice_index_or (sides_of surface) (face - 1) None

-- the level of a face from 1 on: that of its plane, of the one face of a half-space or a ball, or of a face of a cylinder
abbrev pub face_level : Surface → ℕ → Ray → ℕ
face_level (Planes sides) face ray = side_level (slice_index_or sides (face - 1) None) ray
face_level (HalfSpace plane) face ray = cond (face == 1) (level_of plane.n ray.dir) 255
face_level (Ball centre radius) face ray = chord_level (chord_at centre radius ray) radius
face_level (Cylinder faces) face ray = cylinder_level faces face ray

-- the level of a face; face 0, where the ray begins or ends inside, has the highest
abbrev pub level_at : Surface → ℕ → Ray → ℕ
level_at surface face ray = cond (face == 0) 255 (face_level surface face ray)

-- the face is at an end of a segment
abbrev pub IsEndFace : ℕ → Option Seg → Type 0
IsEndFace face None = ⊥
IsEndFace face (Some seg) = (face ≡ seg.start_face) ⊎ (face ≡ seg.end_face)

-- the face is 0 or one at an end of the ray's segment
abbrev pub IsFaceOn : Surface → Ray → ℕ → Type 0
IsFaceOn surface ray face = (face ≡ 0) ⊎ IsEndFace face (segment_of surface ray)
