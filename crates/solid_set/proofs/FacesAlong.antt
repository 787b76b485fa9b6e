-- What the faces of a placed solid tell of a ray is what its surface tells.
use Rattle.std.proofs.Common.{◌≡◌, ◌↔◌, ℤ, Bool, true, false, ◌||◌, List, [], ◌∷◌, ◌++◌, Option, Some, None, refl, ap}
use Rattle.lattice_core.specs.declared.ray.Ray.{Ray}
use Rattle.lattice_core.specs.Units.{unit_of}
use Rattle.plane_geom.specs.declared.plane.Plane.{Plane}
use Rattle.solid_set.specs.declared.crossed.Crossed.{Crossed}
use Rattle.solid_set.specs.declared.surface.Surface.TheVariants.{Planes, HalfSpace, Ball, Cylinder}
use Rattle.solid_set.specs.Surfaces.{AllHold}
use Rattle.solid_set.specs.Crossings.{entering_from, leaving_from, is_missed_by}
use Rattle.solid_set.specs.PlacedFaces.{AllHoldAlong, SurfacesAreOfFaces}

nothing_behind : (cs : List Crossed) → cs ≡ cs ++ []
nothing_behind [] = refl
nothing_behind (c ∷ cs) = ap (λ (ds : List Crossed). c ∷ ds) (nothing_behind cs)

or_false : (b : Bool) → b ≡ (b || false)
or_false true = refl
or_false false = refl

all_hold : (sides : List (Option Plane)) (ray : Ray) (p q : ℤ) → AllHoldAlong sides ray.origin (unit_of ray.dir) p q ↔ AllHold sides ray p q
all_hold [] ray p q = (λ h. h, λ h. h)
all_hold (None ∷ sides) ray p q = all_hold sides ray p q
all_hold (Some plane ∷ sides) ray p q = let more = all_hold sides ray p q in (λ h. (h.0, more.0 h.1), λ h. (h.0, more.1 h.1))

pub surfaces_are_of_faces : SurfacesAreOfFaces
surfaces_are_of_faces (Planes sides) ray = record {
  enters = nothing_behind (entering_from ray 1 sides);
  leaves = nothing_behind (leaving_from ray 1 sides);
  misses = or_false (is_missed_by ray sides);
  inside = λ p q. let all = all_hold sides ray p q in (λ h. all.0 h.0, λ h. (all.1 h, tt));
}
surfaces_are_of_faces (HalfSpace plane) ray = record {
  enters = nothing_behind (entering_from ray 1 (Some plane ∷ []));
  leaves = nothing_behind (leaving_from ray 1 (Some plane ∷ []));
  misses = or_false (is_missed_by ray (Some plane ∷ []));
  inside = λ p q. (λ h. h.0.0, λ h. ((h, tt), tt));
}
surfaces_are_of_faces (Ball centre radius) ray = record {
  enters = refl;
  leaves = refl;
  misses = refl;
  inside = λ p q. (λ h. h.1, λ h. (tt, h));
}
surfaces_are_of_faces (Cylinder faces) ray = record {
  enters = refl;
  leaves = refl;
  misses = refl;
  inside = λ p q. (λ h. (h.0.0, h.0.1.0, h.1), λ h. ((h.0, (h.1, tt)), h.2));
}
