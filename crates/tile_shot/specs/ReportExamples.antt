-- Reports of small views, proved by computation.
use Rattle.std.specs.Prelude.{◌≡◌, refl, ℕ, ℤ, pos, negsuc, ◌-ℤ◌, [], ◌∷◌, Some}
use Rattle.lattice_core.specs.Extents.{extent_between}
use Rattle.lattice_core.specs.declared.boxes.Box3.TheVariants.{Span}
use Rattle.lattice_core.specs.declared.ray.Dir.TheVariants.{PlusX}
use Rattle.lattice_core.specs.declared.view.View.{View}
use Rattle.lattice_core.specs.Vectors.{vector}
use Rattle.surd_order.specs.declared.position.Pos.{Pos}
use Rattle.surd_order.specs.declared.position.Pos.TheVariants.{Frac}
use Rattle.surd_order.specs.PlaceOrder.{place_cmp}
use Rattle.tree_forms.specs.Trees.{Leaf}
use Rattle.solid_set.specs.declared.surface.Surface.TheVariants.{Planes}
use Rattle.overlap_list.specs.declared.overlap.OverlapRun.{OverlapRun}
use Rattle.shot_core.specs.declared.pair.Pair.{Pair}
use Rattle.shot_core.specs.Regions.{Region}
use Rattle.tile_shot.specs.Reports.{Spot, spots_of, PlacePair, place_pairs, report_on, view_report}
use Rattle.tile_shot.specs.Merges.{merged}

abbrev spot : ℕ → ℕ → Spot
spot column row = record { column = column; row = row }

-- two columns and two rows, row by row
pixels_of_a_span : spots_of (record { column = 3; row = 5; w = 2; h = 2 }) ≡ spot 3 5 ∷ spot 4 5 ∷ spot 3 6 ∷ spot 4 6 ∷ []
pixels_of_a_span = refl

abbrev places : ℕ → ℕ → PlacePair
places one two = record { one = one; two = two }

pairs_of_three : place_pairs (1 ∷ 2 ∷ 4 ∷ []) ≡ places 1 2 ∷ places 1 4 ∷ places 2 4 ∷ []
pairs_of_three = refl

abbrev whole : ℕ → Pos
whole n = Frac (pos n) (pos 1)

abbrev run : ℕ → ℕ → ℕ → ℕ → OverlapRun
run one two start end = record { one = one; two = two; start = whole start; end = whole end }

abbrev pair : ℕ → ℕ → ℕ → ℕ → ℕ → ℕ → ℕ → Pair
pair one two rays column row start end = record { one = one; two = two; rays = rays; column = column; row = row; start = whole start; end = whole end }

-- by the first place and then the second, each with its own first ray
report_of_three_rays : report_on (1 ∷ 2 ∷ 4 ∷ [])
    (record { spot = spot 0 0; runs = run 2 4 5 6 ∷ [] } ∷ record { spot = spot 1 0; runs = [] } ∷ record { spot = spot 0 1; runs = run 1 2 7 8 ∷ run 2 4 1 2 ∷ [] } ∷ [])
    ≡ pair 1 2 1 0 1 7 8 ∷ pair 2 4 2 0 0 5 6 ∷ []
report_of_three_rays = refl

-- a pair of both lists has the first ray that comes first by rows, though the second list has it, with its overlap there
two_lists : merged (pair 1 2 3 0 7 1 2 ∷ pair 2 3 1 0 0 3 4 ∷ []) (pair 1 2 5 16 0 5 6 ∷ pair 1 3 1 17 0 7 8 ∷ []) ≡ pair 1 2 8 16 0 5 6 ∷ pair 1 3 1 17 0 7 8 ∷ pair 2 3 1 0 0 3 4 ∷ []
two_lists = refl

-- a box by its sides, as a region: from y and z 0 to 10
abbrev box : ℕ → ℕ → ℤ → ℤ → Region
box place air xlo xhi = record {
  place = place;
  path = [];
  body = record {
    id = 0;
    air = air;
    rgb = record { r = 0; g = 0; b = 0 };
    tree = Leaf (Some 0);
    instances = record { surface = Planes (Some (record { n = vector (negsuc 0) (pos 0) (pos 0); d = (pos 0 -ℤ xlo) }) ∷ Some (record { n = vector (pos 1) (pos 0) (pos 0); d = xhi }) ∷ Some (record { n = vector (pos 0) (negsuc 0) (pos 0); d = (pos 0) }) ∷ Some (record { n = vector (pos 0) (pos 1) (pos 0); d = (pos 10) }) ∷ Some (record { n = vector (pos 0) (pos 0) (negsuc 0); d = (pos 0) }) ∷ Some (record { n = vector (pos 0) (pos 0) (pos 1); d = (pos 10) }) ∷ []); bounds = Span (extent_between xlo xhi) (extent_between (pos 0) (pos 10)) (extent_between (pos 0) (pos 10)) } ∷ [];
  };
}

-- four columns and four rows, 4 apart
abbrev view : View
view = record { corner = vector (negsuc 4) (pos 12) (pos 12); dir = PlusX; cell = pos 4; w = 4; h = 4 }

-- boxes from x 0 to 10 and from 5 to 15 overlap on nine rays, from 10 to 15 along each
overlapping_boxes : view_report (box 1 0 (pos 0) (pos 10) ∷ box 2 0 (pos 5) (pos 15) ∷ []) view ≡ pair 1 2 9 1 1 10 15 ∷ []
unfolding place_cmp
overlapping_boxes = refl

-- one with air overlaps nothing
no_overlap_with_air : view_report (box 1 1 (pos 0) (pos 10) ∷ box 2 0 (pos 5) (pos 15) ∷ []) view ≡ []
unfolding place_cmp
no_overlap_with_air = refl
