-- The law of scale for scenes: where all lengths are m times as large, the end of the ray among them, the same regions win, each position
-- is m times as far, and every pixel is the same.
use Rattle.std.specs.Prelude.{◌≡◌, ◌<◌, ℕ, ℤ, pos, ◌*ℤ◌, List, map}
use Rattle.std.specs.Int.RustNames.{unsigned_abs}
use Rattle.lattice_core.specs.declared.limit.TheConstants.{FAR, MILLIMETRE}
use Rattle.lattice_core.specs.declared.ray.Ray.{Ray}
use Rattle.lattice_core.specs.declared.view.View.{View}
use Rattle.lattice_core.specs.Views.{pixel_ray}
use Rattle.shot_core.specs.Regions.{Region}
use Rattle.shot_core.specs.Shots.{claims_on, claims_on_up_to, lit_of, lit_up_to, overlaps_on, overlaps_on_up_to}
use Rattle.tile_shot.specs.Pixels.{pixel_of, pixel_up_to}
use Rattle.solid_set.specs.Times.{enlarged}
use Rattle.order_laws.specs.RaysMoved.{moved_overlap}
use Rattle.solid_set.specs.Larger.{larger_ray}
use Rattle.scale_laws.specs.Scenes.{AreLargerInstances, AreLargerRegions, PlacedSolid, instance_of, larger_instance_of, moved_lit, larger_view}

-- regions claim the same intervals, and have the same parts of the ray, with the same hits and levels, from places to places that are m
-- times as far; and they overlap on the same intervals
pub record ScalesOnRay (m : ℕ) (far : ℤ) (regions larger : List Region) (ray : Ray) : Type 0 where
  pub claims : claims_on_up_to (pos m *ℤ far) larger (larger_ray m ray) ≡ claims_on_up_to far regions ray
  pub lit : lit_up_to (pos m *ℤ far) larger (larger_ray m ray) ≡ map (moved_lit (enlarged m)) (lit_up_to far regions ray)
  pub overlaps : overlaps_on_up_to (pos m *ℤ far) larger (larger_ray m ray) ≡ map (moved_overlap (enlarged m)) (overlaps_on_up_to far regions ray)
  pub pixel : pixel_up_to (pos m *ℤ far) larger (larger_ray m ray) ≡ pixel_up_to far regions ray

-- so it is with every ray, and any regions of which the one list is so many times as large as the other
abbrev pub ScenesScale : Type 0
ScenesScale = (m : ℕ) (far : ℤ) (regions larger : List Region) (ray : Ray) → 0 < m → AreLargerRegions m regions larger → ScalesOnRay m far regions larger ray

-- every pixel of the larger view is that of the view
abbrev pub PicturesStay : Type 0
PicturesStay = (m : ℕ) (far : ℤ) (regions larger : List Region) (view : View) (column row : ℕ) → 0 < m → AreLargerRegions m regions larger
    → pixel_up_to (pos m *ℤ far) larger (pixel_ray (larger_view m view) column row) ≡ pixel_up_to far regions (pixel_ray view column row)

-- placed solids with all lengths m times as large are larger instances
abbrev pub InstancesScale : Type 0
InstancesScale = (m : ℕ) (parts : List PlacedSolid) → 0 < m → AreLargerInstances m (map instance_of parts) (map (larger_instance_of m) parts)

-- how many units of length make a millimetre
abbrev pub millimetre : ℕ
millimetre = unsigned_abs MILLIMETRE

-- a ray of its whole length has of larger regions what a ray of this length had of the regions, so many times as far
pub record ScalesToTenths (far : ℤ) (regions larger : List Region) (ray : Ray) : Type 0 where
  pub claims : claims_on larger (larger_ray millimetre ray) ≡ claims_on_up_to far regions ray
  pub lit : lit_of larger (larger_ray millimetre ray) ≡ map (moved_lit (enlarged millimetre)) (lit_up_to far regions ray)
  pub overlaps : overlaps_on larger (larger_ray millimetre ray) ≡ map (moved_overlap (enlarged millimetre)) (overlaps_on_up_to far regions ray)
  pub pixel : pixel_of larger (larger_ray millimetre ray) ≡ pixel_up_to far regions ray

-- where lengths were millimetres and count tenths now, and the ray's length with them
abbrev pub RaysScaleToTenths : Type 0
RaysScaleToTenths = (far : ℤ) (regions larger : List Region) (ray : Ray) → FAR ≡ MILLIMETRE *ℤ far → AreLargerRegions millimetre regions larger → ScalesToTenths far regions larger ray

-- and so every pixel of a view is what it was
abbrev pub PicturesStayInTenths : Type 0
PicturesStayInTenths = (far : ℤ) (regions larger : List Region) (view : View) (column row : ℕ) → FAR ≡ MILLIMETRE *ℤ far → AreLargerRegions millimetre regions larger
    → pixel_of larger (pixel_ray (larger_view millimetre view) column row) ≡ pixel_up_to far regions (pixel_ray view column row)
