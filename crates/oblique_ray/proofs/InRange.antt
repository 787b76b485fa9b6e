-- Places of rays in lattice directions are in range.
use Rattle.std.proofs.Common.{◌≡◌, ◌∙◌, ◌<◌, ◌≤◌, ℕ, zero, suc, ℤ, pos, negsuc, ◌-ℤ◌, ◌<ℤ◌, ◌≤ℤ◌, Bool, true, false, cond, List, [], ◌∷◌, ◌++◌, Option, Some, None, refl, sym, subst, inl, inr, arith}
use Rattle.std.proofs.lemmas.Int.{ints}
use Rattle.std.proofs.lemmas.List.Elements.{All-head, All-tail}
use Rattle.std.proofs.lemmas.Bool.Decides.{Decides-int_eq}
use Rattle.std.specs.Cmp.{int_ranks}
use Rattle.std.specs.Int.RustNames.{unsigned_abs}
use Rattle.std.specs.Option.{ForSome}
use Rattle.std.specs.Ordering.{int_cmp, MatchOrdering}
use Rattle.std.specs.declared.cmp.Ordering.{Ordering}
use Rattle.std.specs.declared.cmp.Ordering.TheVariants.{Less, Equal, Greater}
use Rattle.lattice_core.specs.declared.limit.TheConstants.{COORD, PLACED, WORLD, FAR}
use Rattle.lattice_core.specs.declared.vector.V3.{V3}
use Rattle.lattice_core.specs.Limits.{IsAtMost, IsWithin}
use Rattle.lattice_core.specs.Vectors.{vector_difference}
use Rattle.plane_geom.specs.declared.limit.TheConstants.{GAP, REMOTE}
use Rattle.plane_geom.specs.declared.plane.Plane.{Plane}
use Rattle.plane_geom.specs.Planes.{IsWorldPlane, slope_along, start_at}
use Rattle.plane_geom.specs.Crossings.{holds_along}
use Rattle.plane_geom.specs.Chords.{IsRadius, squared, length_squared, nearest_along, half_chord_along}
use Rattle.plane_geom.proofs.Sizes.{abs_of}
use Rattle.prim_rcc.specs.declared.axis.Axis.{Axis}
use Rattle.prim_rcc.specs.declared.side.RoundSide.{RoundSide}
use Rattle.prim_rcc.specs.Axes.{across, across_squared, is_along}
use Rattle.prim_rcc.specs.Sides.{apart_on, nearest_on, half_chord_on}
use Rattle.solid_set.specs.declared.surface.Round.{Round}
use Rattle.solid_set.specs.declared.surface.Surface.{Surface}
use Rattle.solid_set.specs.PlacedFaces.{planes_of_faces, round_of, side_around, IsRoundSized, IsInsideAlong}
use Rattle.surd_quot.specs.declared.position.QPos.{QPos}
use Rattle.surd_quot.specs.declared.position.QPos.TheVariants.{Frac, Quot}
use Rattle.surd_quot.specs.declared.range.TheConstants.{OVER_LIMIT, UNDER_LIMIT, WHOLE_LIMIT, SQUARE_LIMIT, GREATEST_DIVISOR}
use Rattle.surd_quot.specs.Range.{IsQuotientInRange}
use Rattle.surd_quot.proofs.Ranges.{spelling_stays_in_range}
use Rattle.slant_ray.specs.declared.ray.TheConstants.{STEP}
use Rattle.oblique_ray.specs.declared.limit.TheConstants.{SLOPE, PACE, NEAREST, CHORD}
use Rattle.oblique_ray.specs.Cuts.{LineCut, held_or_missed, plane_cut, plane_cut_by, chord_cut, is_over, cut_around, round_cut, planes_cut, surface_cut}
use Rattle.oblique_ray.specs.Segments.{Stretch, slant_start, slant_end, start_of, end_of}
use Rattle.oblique_ray.specs.Places.{places_of_cut}
use Rattle.oblique_ray.specs.Sizes.{ArePlanesSized, IsSurfaceSized, IsSlant, AreEndsInRange, SlantSegmentsStayInRange}
use Rattle.oblique_ray.proofs.Foremost.{Has}
use Rattle.oblique_ray.proofs.SegmentLaws.{start_met, end_met, at_zero, surface_ends, segment_by}
use Rattle.oblique_ray.proofs.Sizes.{slope_size, gap_size, pace_size, nearest_size, half_small, apart_within, across_within, none_remote, none_step, radius_size, some_across}

-- all of a list are in range
abbrev pub AreInRange : List QPos → Type 0
AreInRange [] = Unit {0}
AreInRange (x ∷ xs) = IsQuotientInRange x × AreInRange xs

both_in_range : (xs ys : List QPos) → AreInRange xs → AreInRange ys → AreInRange (xs ++ ys)
both_in_range [] ys one two = two
both_in_range (x ∷ xs) ys one two = (one.0, both_in_range xs ys one.1 two)

has_in_range : (xs : List QPos) (x : QPos) → AreInRange xs → Has xs x → IsQuotientInRange x
has_in_range [] x all has = absurd has
has_in_range (y ∷ ys) x all has = elim has [ inl e ↦ subst IsQuotientInRange e all.0 | inr more ↦ has_in_range ys x all.1 more ]

-- numbers that are small enough
pub fraction_in_range : (m n p q : ℤ) → unsigned_abs m < OVER_LIMIT → n <ℤ UNDER_LIMIT → IsAtMost m p → IsAtMost n q → pos 0 <ℤ q → IsQuotientInRange (Frac p q)
fraction_in_range m n p q small small' p_size q_size some = record {
  over = omega (arith, abs_of m p p_size, small);
  positive = some;
  under = omega (arith, ints, q_size.1, small');
}

root_in_range : (b : ℤ) (plus : Bool) (k : ℕ) (pace : ℤ) → IsAtMost NEAREST b → pos k ≤ℤ CHORD → pos 0 <ℤ pace → pace ≤ℤ PACE → IsQuotientInRange (Quot b plus k (unsigned_abs pace))
root_in_range b plus k (pos n) b_size k_size some le =
    let whole : unsigned_abs b < WHOLE_LIMIT = omega (arith, abs_of NEAREST b b_size) in
    let square : k < SQUARE_LIMIT = omega (arith, ints, k_size) in
    let positive : 0 < n = omega (arith, ints, some) in
    let divisor : n ≤ GREATEST_DIVISOR = omega (arith, ints, le) in
    record { whole = whole; square = square; positive = positive; divisor = divisor }
root_in_range b plus k (negsuc n) b_size k_size some le = absurd (omega (arith, ints, some))

-- planes
held_in_range : (b : Bool) → AreInRange (held_or_missed b).met
held_in_range true = tt
held_in_range false = tt

opposite : (m z w : ℤ) → IsAtMost m z → w ≡ pos 0 -ℤ z → IsAtMost m w
opposite m z w h e = (omega (arith, ints, h.1, e), omega (arith, ints, h.0, e))

plane_by : (plane : Plane) (o e : V3) → IsAtMost SLOPE (slope_along plane e) → IsAtMost GAP (plane.d -ℤ start_at plane o)
    → (r : Ordering) → MatchOrdering r (slope_along plane e <ℤ pos 0) (slope_along plane e ≡ pos 0) (pos 0 <ℤ slope_along plane e) → AreInRange (plane_cut_by r plane o e).met
plane_by plane o e slope gap Less h = (
  fraction_in_range GAP SLOPE (start_at plane o -ℤ plane.d) (pos 0 -ℤ slope_along plane e) (omega arith) (omega (arith, ints))
      (opposite GAP (plane.d -ℤ start_at plane o) (start_at plane o -ℤ plane.d) gap (omega (arith, ints)))
      (opposite SLOPE (slope_along plane e) (pos 0 -ℤ slope_along plane e) slope refl)
      (omega (arith, ints, h)),
  tt,
)
plane_by plane o e slope gap Equal h = held_in_range (holds_along plane.n (plane.d -ℤ start_at plane o))
plane_by plane o e slope gap Greater h = (fraction_in_range GAP SLOPE (plane.d -ℤ start_at plane o) (slope_along plane e) (omega arith) (omega (arith, ints)) gap slope h, tt)

plane_in_range : (plane : Plane) (o e : V3) → IsWorldPlane plane → IsWithin WORLD o → IsWithin STEP e → AreInRange (plane_cut plane o e).met
plane_in_range plane o e size origin direction =
    plane_by plane o e (slope_size plane e size direction) (gap_size plane o size origin) (int_cmp (slope_along plane e) (pos 0)) (int_ranks (slope_along plane e) (pos 0))

planes_in_range : (planes : List (Option Plane)) (o e : V3) → ArePlanesSized planes → IsWithin WORLD o → IsWithin STEP e → AreInRange (planes_cut planes o e).met
planes_in_range [] o e size origin direction = tt
planes_in_range (None ∷ planes) o e size origin direction = planes_in_range planes o e (All-tail (λ side. ForSome side IsWorldPlane) None planes size) origin direction
planes_in_range (Some plane ∷ planes) o e size origin direction =
    both_in_range (plane_cut plane o e).met (planes_cut planes o e).met (plane_in_range plane o e (All-head (λ side. ForSome side IsWorldPlane) (Some plane) planes size plane refl) origin direction)
    (planes_in_range planes o e (All-tail (λ side. ForSome side IsWorldPlane) (Some plane) planes size) origin direction)

-- what is round
chord_by : (pace b k : ℤ) → IsAtMost NEAREST b → k ≤ℤ CHORD → pos 0 <ℤ pace → pace ≤ℤ PACE → AreInRange (chord_cut pace b k).met
chord_by pace b (pos zero) b_size k_size some le = (root_in_range b false 0 pace b_size k_size some le, (root_in_range b true 0 pace b_size k_size some le, tt))
chord_by pace b (pos (suc k)) b_size k_size some le = (root_in_range b false (suc k) pace b_size k_size some le, (root_in_range b true (suc k) pace b_size k_size some le, tt))
chord_by pace b (negsuc k) b_size k_size some le = tt

chord_in_range : (apart e : V3) (r : ℤ) → IsWithin REMOTE apart → IsWithin STEP e → IsAtMost COORD r → pos 0 <ℤ length_squared e
    → AreInRange (chord_cut (length_squared e) (nearest_along apart e) (half_chord_along apart r e)).met
chord_in_range apart e r apart_size direction r_size some =
    chord_by (length_squared e) (nearest_along apart e) (half_chord_along apart r e) (nearest_size apart e apart_size direction) (half_small apart e r direction r_size) some (pace_size e direction).1

side_by : (side : RoundSide) (o e : V3) → IsWithin PLACED side.centre → IsRadius side.radius → IsWithin WORLD o → IsWithin STEP e → (b : Bool) → is_along side.axis e ≡ b
    → AreInRange (cond b (held_or_missed (is_over (squared side.radius -ℤ length_squared (apart_on side o)))) (chord_cut (across_squared side.axis e) (nearest_on side o e) (half_chord_on side o e))).met
side_by side o e centre radius origin direction true is = held_in_range (is_over (squared side.radius -ℤ length_squared (apart_on side o)))
side_by side o e centre radius origin direction false is =
    let steep : ¬ (across_squared side.axis e ≡ pos 0) = λ along. absurd (let t : is_along side.axis e ≡ true = (Decides-int_eq (across_squared side.axis e) (pos 0)).1 along in let f : true ≡ false = sym t ∙ is in cc) in
    chord_in_range (apart_on side o) (across side.axis e) side.radius
    (across_within side.axis REMOTE (vector_difference side.centre o) none_remote (apart_within side.centre o centre origin))
    (across_within side.axis STEP e none_step direction) (radius_size side.radius radius) (some_across (across side.axis e) steep)

around_in_range : (axis : Option Axis) (c : V3) (r : ℤ) (o e : V3) → IsWithin PLACED c → IsRadius r → IsWithin WORLD o → IsWithin STEP e → pos 0 <ℤ length_squared e → AreInRange (cut_around axis c r o e).met
around_in_range None c r o e centre radius origin direction some =
    chord_in_range (vector_difference c o) e r (apart_within c o centre origin) direction (radius_size r radius) some
around_in_range (Some axis) c r o e centre radius origin direction some = side_by (side_around c r axis) o e centre radius origin direction (is_along axis e) refl

round_in_range : (round : Option Round) (o e : V3) → ForSome round IsRoundSized → IsWithin WORLD o → IsWithin STEP e → pos 0 <ℤ length_squared e → AreInRange (round_cut round o e).met
round_in_range None o e size origin direction some = tt
round_in_range (Some round) o e size origin direction some =
    let sized = size round refl in around_in_range round.axis round.centre round.radius o e sized.centre sized.radius origin direction some

pub surface_in_range : (surface : Surface) (o e : V3) → IsSurfaceSized surface → IsSlant o e → AreInRange (surface_cut surface o e).met
surface_in_range surface o e size slant =
    both_in_range (planes_cut (planes_of_faces surface) o e).met (round_cut (round_of surface) o e).met (planes_in_range (planes_of_faces surface) o e size.planes slant.origin slant.direction)
    (round_in_range (round_of surface) o e size.round slant.origin slant.direction slant.some)

-- with the two ends of the ray
pub start_in_range : IsQuotientInRange slant_start
start_in_range = fraction_in_range (pos 0) (pos 1) (pos 0) (pos 1) (omega arith) (omega (arith, ints)) (omega (arith, ints), omega (arith, ints)) (omega (arith, ints), omega (arith, ints)) (omega (arith, ints))

pub end_in_range : (far : ℤ) → pos 0 ≤ℤ far → far ≤ℤ FAR → IsQuotientInRange (slant_end far)
end_in_range far low high = fraction_in_range FAR (pos 1) far (pos 1) (omega arith) (omega (arith, ints)) (omega (arith, ints, low), high) (omega (arith, ints), omega (arith, ints)) (omega (arith, ints))

all_in_range : (far : ℤ) (cut : LineCut) → pos 0 ≤ℤ far → far ≤ℤ FAR → AreInRange cut.met → AreInRange (places_of_cut far cut)
all_in_range far cut low high all = (start_in_range, (end_in_range far low high, all))

pub slant_segments_stay_in_range : SlantSegmentsStayInRange
slant_segments_stay_in_range far surface o e low high slant size = λ x is.
    let cut : LineCut = surface_cut surface o e in
    let s : QPos = start_of (surface_cut surface o e) in
    let t : QPos = end_of far (surface_cut surface o e) in
    let all = all_in_range far cut low high (surface_in_range surface o e size slant) in
    let ends = surface_ends far surface o e slant.some in
    let tells = at_zero surface o e slant.some in
    let first = has_in_range (places_of_cut far cut) s all (start_met far cut (IsInsideAlong surface o e (pos 0) (pos 1)) (Frac (pos 0) (pos 1)) s tells ends.first.among) in
    let last = has_in_range (places_of_cut far cut) t all (end_met far cut (IsInsideAlong surface o e (pos 0) (pos 1)) (Frac (pos 0) (pos 1)) t tells ends.last.among) in
    subst (λ (z : Stretch). AreEndsInRange z) (segment_by s t x cut.missed is).is (spelling_stays_in_range s first, spelling_stays_in_range t last)
