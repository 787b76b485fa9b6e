-- Pixels of small scenes, proved by computation.
use Rattle.std.specs.Prelude.{◌≡◌, refl, ℕ, ℤ, pos, [], ◌∷◌, Some}
use Rattle.region_attr.specs.declared.attr.Rgb.{Rgb}
use Rattle.lattice_core.specs.declared.ray.Dir.TheVariants.{MinusX}
use Rattle.lattice_core.specs.declared.view.View.{View}
use Rattle.lattice_core.specs.Vectors.{vector}
use Rattle.lattice_core.specs.Views.{pixel_ray}
use Rattle.surd_order.specs.PlaceOrder.{place_cmp}
use Rattle.tree_forms.specs.Trees.{Leaf}
use Rattle.solid_set.specs.declared.surface.Surface.TheVariants.{HalfSpace}
use Rattle.solid_set.specs.Bounds.{all_of_space}
use Rattle.shot_core.specs.Regions.{Instance, Region}
use Rattle.tile_shot.specs.Pixels.{shaded_part, pixel_of, view_bytes}

-- a bright part that is lit by half
half_lit : shaded_part 127 200 ≡ 99
half_lit = refl

-- the points with x + y at most 10
abbrev slope : Instance
slope = record { surface = HalfSpace (record { n = vector (pos 1) (pos 1) (pos 0); d = pos 10 }); bounds = all_of_space }

abbrev colour : ℕ → ℕ → ℕ → Rgb
colour r g b = record { r = r; g = g; b = b }

-- a region of one instance and of that air
abbrev single : ℕ → Instance → Region
single air i = record { place = 1; path = []; body = record { id = 0; air = air; rgb = colour 200 100 255; tree = Leaf (Some 0); instances = i ∷ [] } }

-- two columns and one row of pixels, whose rays start at that x
abbrev looking_back : ℤ → View
looking_back x = record { corner = vector x (pos 0) (pos 0); dir = MinusX; cell = pos 5; w = 2; h = 1 }

-- a plane that leans by half a right angle is lit at 155
leaning_plane : pixel_of (single 0 slope ∷ []) (pixel_ray (looking_back (pos 50)) 0 0) ≡ colour 121 60 155
unfolding place_cmp
leaning_plane = refl

-- a ray that starts inside shows the colour itself
seen_from_inside : pixel_of (single 0 slope ∷ []) (pixel_ray (looking_back (pos 0)) 0 0) ≡ colour 200 100 255
unfolding place_cmp
seen_from_inside = refl

-- air is not seen
air_is_black : pixel_of (single 7 slope ∷ []) (pixel_ray (looking_back (pos 50)) 0 0) ≡ colour 0 0 0
unfolding place_cmp
air_is_black = refl

-- the second ray starts in front of the plane and the first one behind it
row_of_two : view_bytes (single 0 slope ∷ []) (looking_back (pos 7)) ≡ 200 ∷ 100 ∷ 255 ∷ 121 ∷ 60 ∷ 155 ∷ []
unfolding place_cmp
row_of_two = refl
