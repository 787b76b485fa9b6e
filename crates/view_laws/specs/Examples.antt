-- Partitions by place with a region beside the ray and without it, the pixels of a view of two, and its report, proved by computation.
use Rattle.std.specs.Prelude.{◌≡◌, refl, ℕ, ℤ, pos, negsuc, List, [], ◌∷◌, Some, slice_get}
use Rattle.lattice_core.specs.declared.boxes.Box3.TheVariants.{Span}
use Rattle.lattice_core.specs.declared.ray.Dir.TheVariants.{PlusX}
use Rattle.lattice_core.specs.declared.view.View.{View}
use Rattle.lattice_core.specs.Extents.{extent_between}
use Rattle.lattice_core.specs.Vectors.{vector}
use Rattle.lattice_core.specs.Views.{pixel_ray}
use Rattle.prim_arb8.specs.Faces.{planes_of}
use Rattle.region_attr.specs.declared.attr.Rgb.{Rgb}
use Rattle.surd_order.specs.declared.position.Pos.TheVariants.{Frac}
use Rattle.surd_order.specs.PlaceOrder.{place_cmp}
use Rattle.tree_forms.specs.Trees.{Leaf}
use Rattle.solid_set.specs.declared.surface.Surface.TheVariants.{Planes, HalfSpace}
use Rattle.solid_set.specs.Bounds.{all_of_space}
use Rattle.solid_set.specs.Rpps.{rpp_vertices}
use Rattle.shot_core.specs.declared.pair.Pair.{Pair}
use Rattle.shot_core.specs.Regions.{Region}
use Rattle.tile_shot.specs.Pixels.{black, pixel_of}
use Rattle.tile_shot.specs.Reports.{view_report}
use Rattle.view_laws.specs.Pruning.{PlacedPartition, partitions_by_place}

abbrev pub red : Rgb
red = record { r = 255; g = 0; b = 0 }

abbrev pub green : Rgb
green = record { r = 0; g = 255; b = 0 }

-- a region of one box from 0 to 10 along z, by its place, its air, its colour, and its least and greatest x and y
abbrev pub box_at : ℕ → ℕ → Rgb → ℤ → ℤ → ℤ → ℤ → Region
box_at place air rgb xlo xhi ylo yhi = record {
  place = place;
  path = [];
  body = record {
    id = 0;
    air = air;
    rgb = rgb;
    tree = Leaf (Some 0);
    instances = record {
      surface = Planes (planes_of (rpp_vertices xlo xhi ylo yhi (pos 0) (pos 10)));
      bounds = Span (extent_between xlo xhi) (extent_between ylo yhi) (extent_between (pos 0) (pos 10));
    } ∷ [];
  };
}

-- x from 0 to 10, of air or not, and from 5 to 15
abbrev pub first : ℕ → Region
first air = box_at 1 air red (pos 0) (pos 10) (pos 0) (pos 10)

abbrev pub last : Region
last = box_at 3 0 green (pos 5) (pos 15) (pos 0) (pos 10)

abbrev pub two_boxes : ℕ → List Region
two_boxes air = first air ∷ last ∷ []

-- along x, from y = 5 and from y = -45
abbrev pub two_pixels : View
two_pixels = record { corner = vector (negsuc 4) (pos 5) (pos 5); dir = PlusX; cell = pos 50; w = 2; h = 1 }

-- of the region of some place, which hits the box of a region
abbrev partition : ℕ → Region → ℕ → ℕ → ℕ → PlacedPartition
partition place hit start end face = record { place = place; start = Frac (pos start) (pos 1); end = Frac (pos end) (pos 1); instance = slice_get hit.body.instances 0; face = face; level = 255 }

abbrev partitions : List PlacedPartition
partitions = partition 1 (first 0) 5 15 1 ∷ partition 3 (first 0) 15 20 2 ∷ []

-- the first box is hit at its face of least x, and the last one shows where the first one ends
with_one_beside : partitions_by_place (box_at 0 0 green (pos 0) (pos 10) (pos 50) (pos 60) ∷ two_boxes 0) (pixel_ray two_pixels 0 0) ≡ partitions
unfolding place_cmp
with_one_beside = refl

-- without the one beside the ray, which stands before them, the numbers of regions and instances fall; places, instances, faces and
-- levels stay
without_it : partitions_by_place (two_boxes 0) (pixel_ray two_pixels 0 0) ≡ partitions
unfolding place_cmp
without_it = refl

-- the first pixel shows the first box, or the last one where the first is of air, and the second pixel nothing
pub first_pixel : pixel_of (two_boxes 0) (pixel_ray two_pixels 0 0) ≡ red
unfolding place_cmp
first_pixel = refl

first_pixel_behind_air : pixel_of (two_boxes 1) (pixel_ray two_pixels 0 0) ≡ green
unfolding place_cmp
first_pixel_behind_air = refl

second_pixel : pixel_of (two_boxes 0) (pixel_ray two_pixels 1 0) ≡ black
unfolding place_cmp
second_pixel = refl

-- the boxes overlap on one ray, from x = 5 to x = 10, and not where the first is of air
abbrev pub their_pair : Pair
their_pair = record { one = 1; two = 3; rays = 1; column = 0; row = 0; start = Frac (pos 10) (pos 1); end = Frac (pos 15) (pos 1) }

pub their_report : view_report (two_boxes 0) two_pixels ≡ their_pair ∷ []
unfolding place_cmp
their_report = refl

pub no_report_with_air : view_report (two_boxes 1) two_pixels ≡ []
unfolding place_cmp
no_report_with_air = refl

-- from the next pixel they overlap too where it is at y = 3
their_pair_on_two_rays : view_report (two_boxes 0) (record two_pixels { cell = pos 2 }) ≡ record their_pair { rays = 2 } ∷ []
unfolding place_cmp
their_pair_on_two_rays = refl

-- the points with x + y at least 15, of which a ray along x shows a face at the level 155
abbrev slope : ℕ → Region
slope place = record {
  place = place;
  path = [];
  body = record {
    id = 0;
    air = 0;
    rgb = green;
    tree = Leaf (Some 0);
    instances = record { surface = HalfSpace (record { n = vector (negsuc 0) (negsuc 0) (pos 0); d = negsuc 14 }); bounds = all_of_space } ∷ [];
  };
}

-- where it begins and air ends, the one that is listed first is hit
slope_behind_air : pixel_of (first 1 ∷ slope 2 ∷ []) (pixel_ray two_pixels 0 0) ≡ green
unfolding place_cmp
slope_behind_air = refl

slope_before_air : pixel_of (slope 1 ∷ box_at 2 1 red (pos 0) (pos 10) (pos 0) (pos 10) ∷ []) (pixel_ray two_pixels 0 0) ≡ record { r = 0; g = 155; b = 0 }
unfolding place_cmp
slope_before_air = refl
