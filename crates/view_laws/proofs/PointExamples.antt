-- What true pixels, pairs and reports are of two boxes and of no regions, and what they are not.
use Rattle.std.proofs.Common.{◌≡◌, ◌<◌, ℕ, zero, suc, List, [], ◌∷◌, length, slice_get, Bool, true, false, cond, Some, IfSome, All, Contains, ap, subst, ◌∙◌, refl, inl, inr, arith}
use Rattle.std.proofs.lemmas.List.Elements.{All-nil, All-cons}
use Rattle.lattice_core.specs.declared.ray.Ray.{Ray}
use Rattle.lattice_core.specs.declared.view.View.{View}
use Rattle.lattice_core.specs.Views.{pixel_ray}
use Rattle.region_attr.specs.declared.attr.Rgb.{Rgb}
use Rattle.shot_core.specs.declared.pair.Pair.{Pair}
use Rattle.ppm_write.specs.Pictures.{whole_span}
use Rattle.shot_core.specs.Regions.{Region, HaveInstances, HasLeavesBelow}
use Rattle.tile_shot.specs.Pixels.{black}
use Rattle.tile_shot.specs.Reports.{Spot, spots_of, HaveRisingPlaces}
use Rattle.tile_shot.proofs.Reporting.{found}
use Rattle.view_laws.specs.PixelPoints.{IsTruePixel}
use Rattle.view_laws.specs.ReportPoints.{OverlapSomewhere, IsTruePair, IsTrueReport}
use Rattle.view_laws.specs.Examples.{red, green, first, last, two_boxes, two_pixels, their_pair, their_report, no_report_with_air, first_pixel}
use Rattle.view_laws.proofs.OneReport.{reports_tell_points}
use Rattle.view_laws.proofs.OnePixel.{pixels_tell_points}

no_region : (n : ℕ) (r : Region) → slice_get [] n ≡ Some r → ⊥
no_region n r e = cc

-- without regions a pixel is black, and no other colour
black_without_regions : (ray : Ray) → IsTruePixel [] ray black
black_without_regions ray = inr (refl, λ p q on free holds. no_region holds.number holds.region holds.there)

red_is_not_black : red ≡ black → ⊥
red_is_not_black e = let wrong : 255 ≡ 0 = ap (λ (c : Rgb). c.r) e in omega (arith, wrong)

not_red_without_regions : (ray : Ray) → ¬ (IsTruePixel [] ray red)
not_red_without_regions ray = λ told. elim told [
  | inl shown ↦ no_region shown.first.lit.region shown.first.seen.region shown.first.seen.there
  | inr nothing ↦ red_is_not_black nothing.0
]

-- a pair's rays are no more than there are, and there is one at least
filter_short : {X : Type 0} (test : X → Bool) (x : X) (b : Bool) → length (cond b (x ∷ []) []) < 2
filter_short test x true = omega arith
filter_short test x false = omega arith

two_rays_of_one : (regions : List Region) (view : View) (s : Spot) (pair : Pair) → pair.rays ≡ 2 → ¬ (IsTruePair regions view (s ∷ []) pair)
two_rays_of_one regions view s pair two = λ told. let few = filter_short told.overlap s (told.overlap s) in omega (arith, few, told.rays, two)

no_ray_at_all : (regions : List Region) (view : View) (pair : Pair) → ¬ (IsTruePair regions view [] pair)
no_ray_at_all regions view pair = λ told. let wrong = told.first in absurd cc

-- and they are of two regions, the one of the lower place first
higher_place_first : (regions : List Region) (view : View) (spots : List Spot) (pair : Pair) → pair.two < pair.one → ¬ (IsTruePair regions view spots pair)
higher_place_first regions view spots pair back = λ told. omega (arith, told.order, back)

no_overlap_without_regions : (ray : Ray) (one two : ℕ) → ¬ (OverlapSomewhere [] ray one two)
no_overlap_without_regions ray one two = λ h. no_region h.first_number h.both.first h.both.first_there

no_pair_without_regions : (view : View) (spots : List Spot) (pair : Pair) → ¬ (IsTruePair [] view spots pair)
no_pair_without_regions view spots pair = λ told.
    let s : Spot = record { column = pair.column; row = pair.row } in
    no_overlap_without_regions (pixel_ray view pair.column pair.row) pair.one pair.two ((told.tells s).0 (found told.overlap spots s told.first))

-- the empty report is true where there are no regions, and not where two overlap on the ray of some pixel
empty_without_regions : (view : View) (spots : List Spot) → IsTrueReport [] view spots []
empty_without_regions view spots = record {
  each = All-nil (IsTruePair [] view spots);
  rising = λ i j d lt within. absurd (omega (arith, within));
  all = λ one two s lt there h. absurd (no_overlap_without_regions (pixel_ray view s.column s.row) one two h);
}

not_empty_where_two_overlap : (regions : List Region) (view : View) (spots : List Spot) (s : Spot) → Contains spots s → OverlapSomewhere regions (pixel_ray view s.column s.row) 1 2 → ¬ (IsTrueReport regions view spots [])
not_empty_where_two_overlap regions view spots s there h = λ told. let some = told.all 1 2 s (omega arith) there h in omega (arith, some.2)

-- of the two boxes just what is computed is true
for_two : (P : Region → Type 0) (r s : Region) → P r → P s → All P (r ∷ s ∷ [])
for_two P r s one two = All-cons P r (s ∷ []) one (All-cons P s [] two (All-nil P))

boxes_below : (air : ℕ) → HaveInstances (two_boxes air)
boxes_below air =
    for_two (λ r. HasLeavesBelow (length r.body.instances) r.body.tree) (first air) last (All-cons (λ leaf. IfSome leaf (λ i. i < 1)) (Some 0) [] (omega arith) (All-nil (λ leaf. IfSome leaf (λ i. i < 1))))
    (All-cons (λ leaf. IfSome leaf (λ i. i < 1)) (Some 0) [] (omega arith) (All-nil (λ leaf. IfSome leaf (λ i. i < 1))))

boxes_rise : (air : ℕ) → HaveRisingPlaces (two_boxes air)
boxes_rise air zero zero d lt within = absurd (omega (arith, lt))
boxes_rise air zero (suc zero) d lt within = omega arith
boxes_rise air zero (suc (suc j)) d lt within = absurd (omega (arith, within))
boxes_rise air (suc i) zero d lt within = absurd (omega (arith, lt))
boxes_rise air (suc i) (suc zero) d lt within = absurd (omega (arith, lt))
boxes_rise air (suc i) (suc (suc j)) d lt within = absurd (omega (arith, within))

abbrev spots : List Spot
spots = spots_of (whole_span two_pixels)

true_report : IsTrueReport (two_boxes 0) two_pixels spots (their_pair ∷ [])
true_report = subst (IsTrueReport (two_boxes 0) two_pixels spots) their_report (reports_tell_points (two_boxes 0) two_pixels spots (boxes_rise 0) (boxes_below 0)).told

only_report : (others : List Pair) → IsTrueReport (two_boxes 0) two_pixels spots others → others ≡ their_pair ∷ []
only_report others told = (reports_tell_points (two_boxes 0) two_pixels spots (boxes_rise 0) (boxes_below 0)).alone others told ∙ their_report

only_report_with_air : (others : List Pair) → IsTrueReport (two_boxes 1) two_pixels spots others → others ≡ []
only_report_with_air others told = (reports_tell_points (two_boxes 1) two_pixels spots (boxes_rise 1) (boxes_below 1)).alone others told ∙ no_report_with_air

missing_pair : ¬ (IsTrueReport (two_boxes 0) two_pixels spots [])
missing_pair = λ told. let wrong = only_report [] told in absurd cc

pair_told_twice : ¬ (IsTrueReport (two_boxes 0) two_pixels spots (their_pair ∷ their_pair ∷ []))
pair_told_twice = λ told. let wrong : 2 ≡ 1 = ap (λ (l : List Pair). length l) (only_report (their_pair ∷ their_pair ∷ []) told) in omega (arith, wrong)

abbrev head_of : Pair → List Pair → Pair
head_of d [] = d
head_of d (p ∷ ps) = p

pair_of_two_rays : ¬ (IsTrueReport (two_boxes 0) two_pixels spots (record their_pair { rays = 2 } ∷ []))
pair_of_two_rays = λ told. let wrong : 2 ≡ 1 = ap (λ l. (head_of their_pair l).rays) (only_report (record their_pair { rays = 2 } ∷ []) told) in omega (arith, wrong)

first_on_the_other_ray : ¬ (IsTrueReport (two_boxes 0) two_pixels spots (record their_pair { column = 1 } ∷ []))
first_on_the_other_ray = λ told. let wrong : 1 ≡ 0 = ap (λ l. (head_of their_pair l).column) (only_report (record their_pair { column = 1 } ∷ []) told) in omega (arith, wrong)

pair_with_air : ¬ (IsTrueReport (two_boxes 1) two_pixels spots (their_pair ∷ []))
pair_with_air = λ told. let wrong = only_report_with_air (their_pair ∷ []) told in absurd cc

-- and the first pixel is red, and no other colour
true_pixel : IsTruePixel (two_boxes 0) (pixel_ray two_pixels 0 0) red
true_pixel = subst (IsTruePixel (two_boxes 0) (pixel_ray two_pixels 0 0)) first_pixel (pixels_tell_points (two_boxes 0) (pixel_ray two_pixels 0 0) (boxes_rise 0) (boxes_below 0)).told

only_pixel : (other : Rgb) → IsTruePixel (two_boxes 0) (pixel_ray two_pixels 0 0) other → other ≡ red
only_pixel other told = (pixels_tell_points (two_boxes 0) (pixel_ray two_pixels 0 0) (boxes_rise 0) (boxes_below 0)).alone other told ∙ first_pixel

not_green : ¬ (IsTruePixel (two_boxes 0) (pixel_ray two_pixels 0 0) green)
not_green = λ told. let wrong : 0 ≡ 255 = ap (λ (c : Rgb). c.r) (only_pixel green told) in omega (arith, wrong)

darker : ¬ (IsTruePixel (two_boxes 0) (pixel_ray two_pixels 0 0) (record { r = 254; g = 0; b = 0 }))
darker = λ told. let wrong : 254 ≡ 255 = ap (λ (c : Rgb). c.r) (only_pixel (record { r = 254; g = 0; b = 0 }) told) in omega (arith, wrong)
