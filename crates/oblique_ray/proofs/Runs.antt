-- The running start and end against the whole lists of crossings.
use Rattle.std.proofs.Common.{◌≡◌, ◌≢◌, ◌∙◌, ◌<◌, ◌≤◌, ℕ, zero, suc, ℤ, pos, negsuc, ◌+ℤ◌, ◌-ℤ◌, ◌*ℤ◌, ◌<ℤ◌, ◌≤ℤ◌, Bool, true, false, not, cond, ◌||◌, List, [], ◌∷◌, ◌++◌, Option, Some, None, refl, ap, sym, subst, arith, FitsSigned}
use Rattle.std.proofs.lemmas.Int.{ints, fits_signed_from_abs}
use mir.Syntax.{w128}
use Rattle.std.specs.Int.RustNames.{unsigned_abs}
use Rattle.std.proofs.lemmas.Bool.Decides.{Decides-int_eq}
use Rattle.std.specs.Cmp.{int_ranks}
use Rattle.std.specs.Option.{ForSome}
use Rattle.std.specs.Ordering.{int_cmp, is_lt, is_gt, MatchOrdering}
use Rattle.std.specs.declared.cmp.Ordering.{Ordering}
use Rattle.std.specs.declared.cmp.Ordering.TheVariants.{Less, Equal, Greater}
use Rattle.lattice_core.specs.declared.limit.TheConstants.{FAR}
use Rattle.lattice_core.specs.declared.vector.V3.{V3}
use Rattle.lattice_core.specs.Limits.{IsAtMost}
use Rattle.lattice_core.specs.Vectors.{zero_vector, vector_difference}
use Rattle.lattice_core.proofs.Products.{square_at_least}
use Rattle.lattice_core.proofs.Turning.{vector_same}
use Rattle.plane_geom.specs.declared.limit.TheConstants.{GAP}
use Rattle.plane_geom.specs.declared.plane.Plane.{Plane}
use Rattle.plane_geom.specs.Crossings.{holds_along}
use Rattle.plane_geom.specs.Planes.{slope_along, start_at}
use Rattle.plane_geom.specs.Chords.{squared, length_squared, nearest_along, half_chord_along}
use Rattle.plane_geom.proofs.Sizes.{abs_of}
use Rattle.plane_geom.proofs.Squares.{square_none}
use Rattle.prim_rcc.specs.declared.axis.Axis.{Axis}
use Rattle.prim_rcc.specs.declared.side.RoundSide.{RoundSide}
use Rattle.prim_rcc.specs.Axes.{across, across_squared, is_along}
use Rattle.prim_rcc.specs.Sides.{apart_on, nearest_on, half_chord_on}
use Rattle.solid_set.specs.declared.surface.Round.{Round}
use Rattle.solid_set.specs.declared.surface.Surface.{Surface}
use Rattle.solid_set.specs.PlacedFaces.{planes_of_faces, round_of, side_around}
use Rattle.surd_order.proofs.SquareLaws.{gcd_one}
use Rattle.surd_quot.specs.declared.position.QPos.{QPos}
use Rattle.surd_quot.specs.declared.position.QPos.TheVariants.{Frac, Quot}
use Rattle.surd_quot.specs.declared.range.TheConstants.{WHOLE_LIMIT, SQUARE_LIMIT, GREATEST_DIVISOR}
use Rattle.surd_quot.specs.Positions.{IsQuotientPlace}
use Rattle.surd_quot.specs.PlaceOrder.{quotient_cmp}
use Rattle.surd_quot.specs.Range.{IsFractionInRange, IsRootInRange}
use Rattle.surd_quot.specs.Spelled.{spelled_quotient}
use Rattle.surd_quot.specs.Spelling.{quotient_fraction_of, IsSpelledQuotient}
use Rattle.surd_quot.proofs.Ranges.{spelling_stays_in_range}
use Rattle.surd_quot.proofs.SpelledQuotients.{is_one_quotient_spelling}
use Rattle.oblique_ray.specs.declared.limit.TheConstants.{SLOPE, PACE, NEAREST, CHORD}
use Rattle.oblique_ray.specs.declared.run.Run.{Run}
use Rattle.oblique_ray.specs.Cuts.{LineCut, both_cut, held_or_missed, is_over, plane_cut, plane_cut_by, face_cut, planes_cut, chord_cut, ball_cut, side_cut, round_cut, surface_cut}
use Rattle.oblique_ray.specs.Running.{ArePlaces, all_spelled}
use Rattle.oblique_ray.specs.Runs.{IsKnown, whole_run, run_past, run_entered, run_left, stretch_of_run}
use Rattle.oblique_ray.specs.Sizes.{AreEndsInRange}
use Rattle.oblique_ray.specs.Segments.{Stretch, slant_start, slant_end, start_of, end_of, foremost, ahead_of, comes_after, comes_before, stretch_between, segment_of_cut, slant_segment}
use Rattle.oblique_ray.proofs.Faces.{fraction_place}
use Rattle.oblique_ray.proofs.InRange.{fraction_in_range}
use Rattle.oblique_ray.proofs.Running.{cmp_spelled, may_be_spelled_first}
use Rattle.oblique_ray.proofs.SegmentLaws.{at_zero, surface_ends, segment_by}
use Rattle.oblique_ray.proofs.Sizes.{some_across}

-- a fraction whose divisor is over 0 is as it is given
pub quotient_fraction_is : (p q : ℤ) → pos 0 <ℤ q → quotient_fraction_of p q ≡ Frac p q
quotient_fraction_is p (pos q) some = refl
quotient_fraction_is p (negsuc q) some = absurd (omega (arith, ints, some))

-- one face behind others
foremost_more : (is_ahead : QPos → QPos → Bool) (x : QPos) (ys zs : List QPos) → foremost is_ahead (foremost is_ahead x ys) zs ≡ foremost is_ahead x (ys ++ zs)
foremost_more is_ahead x [] zs = refl
foremost_more is_ahead x (y ∷ ys) zs = foremost_more is_ahead (ahead_of is_ahead x y) ys zs

spelled_more : (ys zs : List QPos) → all_spelled ys ++ all_spelled zs ≡ all_spelled (ys ++ zs)
spelled_more [] zs = refl
spelled_more (y ∷ ys) zs = ap (λ (xs : List QPos). spelled_quotient y ∷ xs) (spelled_more ys zs)

or_turned : (c d m : Bool) → (d || (c || m)) ≡ ((c || d) || m)
or_turned true true m = refl
or_turned true false m = refl
or_turned false true m = refl
or_turned false false m = refl

abbrev run_of : QPos → QPos → Bool → Run
run_of s t m = record { start = s; end = t; missed = m }

pub run_both : (run : Run) (c d : LineCut) → run_past (run_past run c) d ≡ run_past run (both_cut c d)
run_both run c d =
    let start : foremost comes_after (foremost comes_after run.start (all_spelled c.entered)) (all_spelled d.entered) ≡ foremost comes_after run.start (all_spelled (c.entered ++ d.entered)) =
    foremost_more comes_after run.start (all_spelled c.entered) (all_spelled d.entered) ∙ ap (λ (xs : List QPos). foremost comes_after run.start xs) (spelled_more c.entered d.entered) in
    let end : foremost comes_before (foremost comes_before run.end (all_spelled c.left)) (all_spelled d.left) ≡ foremost comes_before run.end (all_spelled (c.left ++ d.left)) =
    foremost_more comes_before run.end (all_spelled c.left) (all_spelled d.left) ∙ ap (λ (xs : List QPos). foremost comes_before run.end xs) (spelled_more c.left d.left) in
    let missed : (d.missed || (c.missed || run.missed)) ≡ ((c.missed || d.missed) || run.missed) = or_turned c.missed d.missed run.missed in
    ap (λ (s : QPos). run_of s (foremost comes_before (foremost comes_before run.end (all_spelled c.left)) (all_spelled d.left)) (d.missed || (c.missed || run.missed))) start
    ∙ (ap (λ (t : QPos). run_of (foremost comes_after run.start (all_spelled (c.entered ++ d.entered))) t (d.missed || (c.missed || run.missed))) end
    ∙ ap (λ (m : Bool). run_of (foremost comes_after run.start (all_spelled (c.entered ++ d.entered))) (foremost comes_before run.end (all_spelled (c.left ++ d.left))) m) missed)

pub held_past : (run : Run) (holds : Bool) → run_of run.start run.end (not holds || run.missed) ≡ run_past run (held_or_missed holds)
held_past run true = refl
held_past run false = refl

-- one more of several faces
pub run_face : (run : Run) (side : Option Plane) (planes : List (Option Plane)) (o e : V3) → run_past (run_past run (face_cut side o e)) (planes_cut planes o e) ≡ run_past run (planes_cut (side ∷ planes) o e)
run_face run None planes o e = refl
run_face run (Some plane) planes o e = run_both run (plane_cut plane o e) (planes_cut planes o e)

-- a plane
pub plane_entered : (run next : Run) (x : QPos) (plane : Plane) (o e : V3) (p q : ℤ) → next ≡ run_entered run x → x ≡ spelled_quotient (Frac p q)
    → p ≡ start_at plane o -ℤ plane.d → q ≡ pos 0 -ℤ slope_along plane e → Less ≡ int_cmp (slope_along plane e) (pos 0) → next ≡ run_past run (plane_cut plane o e)
plane_entered run next x plane o e p q is x_is p_is q_is less =
    is ∙ ap (λ (z : QPos). run_entered run z) x_is
    ∙ ap (λ (r : ℤ). run_entered run (spelled_quotient (Frac r q))) p_is
    ∙ ap (λ (s : ℤ). run_entered run (spelled_quotient (Frac (start_at plane o -ℤ plane.d) s))) q_is
    ∙ ap (λ (r : Ordering). run_past run (plane_cut_by r plane o e)) less

pub plane_left : (run next : Run) (x : QPos) (plane : Plane) (o e : V3) (p q : ℤ) → next ≡ run_left run x → x ≡ spelled_quotient (Frac p q)
    → p ≡ plane.d -ℤ start_at plane o → q ≡ slope_along plane e → Greater ≡ int_cmp (slope_along plane e) (pos 0) → next ≡ run_past run (plane_cut plane o e)
plane_left run next x plane o e p q is x_is p_is q_is greater =
    is ∙ ap (λ (z : QPos). run_left run z) x_is
    ∙ ap (λ (r : ℤ). run_left run (spelled_quotient (Frac r q))) p_is
    ∙ ap (λ (s : ℤ). run_left run (spelled_quotient (Frac (plane.d -ℤ start_at plane o) s))) q_is
    ∙ ap (λ (r : Ordering). run_past run (plane_cut_by r plane o e)) greater

pub plane_held : (run next : Run) (holds : Bool) (plane : Plane) (o e : V3) (gap : ℤ) → next ≡ run_past run (held_or_missed holds) → holds ≡ holds_along plane.n gap
    → gap ≡ plane.d -ℤ start_at plane o → Equal ≡ int_cmp (slope_along plane e) (pos 0) → next ≡ run_past run (plane_cut plane o e)
plane_held run next holds plane o e gap is holds_is gap_is equal =
    is ∙ ap (λ (b : Bool). run_past run (held_or_missed b)) holds_is
    ∙ ap (λ (z : ℤ). run_past run (held_or_missed (holds_along plane.n z))) gap_is
    ∙ ap (λ (r : Ordering). run_past run (plane_cut_by r plane o e)) equal

pub small_fraction : (p q : ℤ) → IsAtMost GAP p → IsAtMost SLOPE q → pos 0 <ℤ q → IsFractionInRange p q
small_fraction p q p_size q_size some = fraction_in_range GAP SLOPE p q (omega arith) (omega (arith, ints)) p_size q_size some

-- what is round
pub small_root : (b : ℤ) (k n : ℕ) → IsAtMost NEAREST b → pos k ≤ℤ CHORD → 0 < n → pos n ≤ℤ PACE → IsRootInRange b k n
small_root b k n b_size k_size some n_size =
    let whole : unsigned_abs b < WHOLE_LIMIT = omega (arith, abs_of NEAREST b b_size) in
    let square : k < SQUARE_LIMIT = omega (arith, ints, k_size) in
    let divisor : n ≤ GREATEST_DIVISOR = omega (arith, ints, n_size) in
    record { whole = whole; square = square; positive = some; divisor = divisor }

pub chord_through : (run mid next : Run) (x y : QPos) (n : ℕ) (b : ℤ) (k : ℕ) → mid ≡ run_entered run x → next ≡ run_left mid y
    → x ≡ spelled_quotient (Quot b false (suc k) n) → y ≡ spelled_quotient (Quot b true (suc k) n) → next ≡ run_past run (chord_cut (pos n) b (pos (suc k)))
chord_through run mid next x y n b k mid_is is x_is y_is =
    is ∙ ap (λ (m : Run). run_left m y) mid_is
    ∙ ap (λ (z : QPos). run_left (run_entered run z) y) x_is
    ∙ ap (λ (z : QPos). run_left (run_entered run (spelled_quotient (Quot b false (suc k) n))) z) y_is

pub chord_missed : (run next : Run) (pace b k : ℤ) → next ≡ run_past run (held_or_missed false) → k ≤ℤ pos 0 → next ≡ run_past run (chord_cut pace b k)
chord_missed run next pace b (pos zero) is le = is
chord_missed run next pace b (pos (suc k)) is le = absurd (omega (arith, ints, le))
chord_missed run next pace b (negsuc k) is le = is

-- a round side, along its axis and across it
pub side_held : (run next : Run) (side : RoundSide) (o e : V3) (holds : Bool) → next ≡ run_past run (held_or_missed holds) → holds ≡ is_over (squared side.radius -ℤ length_squared (apart_on side o))
    → across_squared side.axis e ≡ pos 0 → next ≡ run_past run (side_cut side o e)
side_held run next side o e holds is holds_is along =
    is ∙ ap (λ (b : Bool). run_past run (held_or_missed b)) holds_is
    ∙ ap (λ (t : Bool). run_past run (cond t (held_or_missed (is_over (squared side.radius -ℤ length_squared (apart_on side o)))) (chord_cut (across_squared side.axis e) (nearest_on side o e) (half_chord_on side o e))))
    (sym ((Decides-int_eq (across_squared side.axis e) (pos 0)).1 along))

pub side_through : (run next : Run) (side : RoundSide) (o e : V3) (pace b k : ℤ) → next ≡ run_past run (chord_cut pace b k) → pace ≡ across_squared side.axis e → b ≡ nearest_on side o e → k ≡ half_chord_on side o e
    → ¬ (across_squared side.axis e ≡ pos 0) → next ≡ run_past run (side_cut side o e)
side_through run next side o e pace b k is pace_is b_is k_is steep =
    is ∙ ap (λ (z : ℤ). run_past run (chord_cut z b k)) pace_is
    ∙ ap (λ (z : ℤ). run_past run (chord_cut (across_squared side.axis e) z k)) b_is
    ∙ ap (λ (z : ℤ). run_past run (chord_cut (across_squared side.axis e) (nearest_on side o e) z)) k_is
    ∙ ap (λ (t : Bool). run_past run (cond t (held_or_missed (is_over (squared side.radius -ℤ length_squared (apart_on side o)))) (chord_cut (across_squared side.axis e) (nearest_on side o e) (half_chord_on side o e))))
    (sym (not_along (is_along side.axis e) refl))
  where
    not_along : (t : Bool) → is_along side.axis e ≡ t → is_along side.axis e ≡ false
    not_along true is = absurd (steep ((Decides-int_eq (across_squared side.axis e) (pos 0)).0 is))
    not_along false is = is

-- whether a number is over 0
pub over_by : (z : ℤ) (r : Ordering) → MatchOrdering r (z <ℤ pos 0) (z ≡ pos 0) (pos 0 <ℤ z) → is_gt r ≡ is_over z
over_by (pos zero) Less h = refl
over_by (pos zero) Equal h = refl
over_by (pos zero) Greater h = absurd (omega (arith, ints, h))
over_by (pos (suc n)) Less h = absurd (omega (arith, ints, h))
over_by (pos (suc n)) Equal h = absurd (omega (arith, ints, h))
over_by (pos (suc n)) Greater h = refl
over_by (negsuc n) Less h = refl
over_by (negsuc n) Equal h = refl
over_by (negsuc n) Greater h = absurd (omega (arith, ints, h))

over_is : (z : ℤ) → is_gt (int_cmp z (pos 0)) ≡ is_over z
over_is z = over_by z (int_cmp z (pos 0)) (int_ranks z (pos 0))

-- a vector that is not 0 has a length
pub has_length : (v : V3) → v ≢ zero_vector → pos 0 <ℤ length_squared v
has_length v some = some_across v (λ none. some (flat v.x v.y v.z none))
  where
    flat : (x y z : ℤ) → ((x *ℤ x) +ℤ (y *ℤ y)) +ℤ (z *ℤ z) ≡ pos 0 → (let w : V3 = record { x = x; y = y; z = z } in w) ≡ zero_vector
    flat x y z none =
        let one : x ≡ pos 0 = square_none x (omega (arith, ints, none, square_at_least y, square_at_least z)) in
        let two : y ≡ pos 0 = square_none y (omega (arith, ints, none, square_at_least x, square_at_least z)) in
        let three : z ≡ pos 0 = square_none z (omega (arith, ints, none, square_at_least x, square_at_least y)) in
        vector_same one two three

-- all of them
pub start_spelled : IsSpelledQuotient slant_start
start_spelled = (omega (arith, ints), gcd_one 0)

pub end_spelled : IsSpelledQuotient (slant_end FAR)
end_spelled = (omega (arith, ints), gcd_one (unsigned_abs FAR))

known_start : spelled_quotient slant_start ≡ slant_start
known_start = is_one_quotient_spelling.kept slant_start start_spelled

known_end : spelled_quotient (slant_end FAR) ≡ slant_end FAR
known_end = is_one_quotient_spelling.kept (slant_end FAR) end_spelled

spelled_again : (x : QPos) → IsQuotientPlace x → spelled_quotient (spelled_quotient x) ≡ spelled_quotient x
spelled_again x place = is_one_quotient_spelling.kept (spelled_quotient x) (is_one_quotient_spelling.spelling x place)

abbrev made : QPos → QPos → Stretch
made s t = record { start = s; end = t }

between_spelled : (s t : QPos) → IsQuotientPlace s → IsQuotientPlace t → stretch_between (spelled_quotient s) (spelled_quotient t) ≡ stretch_between s t
between_spelled s t place place' =
    ap (λ (r : Ordering). cond (is_lt r) (Some (made (spelled_quotient (spelled_quotient s)) (spelled_quotient (spelled_quotient t)))) None) (cmp_spelled s t place place')
    ∙ ap (λ (x : QPos). cond (is_lt (quotient_cmp s t)) (Some (made x (spelled_quotient (spelled_quotient t)))) None) (spelled_again s place)
    ∙ ap (λ (y : QPos). cond (is_lt (quotient_cmp s t)) (Some (made (spelled_quotient s) y)) None) (spelled_again t place')

or_false : (b : Bool) → (b || false) ≡ b
or_false true = refl
or_false false = refl

-- a running start and end are the greatest and the least of the whole lists
run_is : (cut : LineCut) → IsQuotientPlace (start_of cut) → IsQuotientPlace (end_of FAR cut) → ArePlaces cut.entered → ArePlaces cut.left → stretch_of_run (run_past whole_run cut) ≡ segment_of_cut FAR cut
run_is cut place place' entered left =
    let first : foremost comes_after slant_start (all_spelled cut.entered) ≡ spelled_quotient (start_of cut) =
    ap (λ (x : QPos). foremost comes_after x (all_spelled cut.entered)) (sym known_start) ∙ may_be_spelled_first.latest slant_start cut.entered (fraction_place (pos 0) (pos 1) (omega (arith, ints))) entered in
    let last : foremost comes_before (slant_end FAR) (all_spelled cut.left) ≡ spelled_quotient (end_of FAR cut) =
    ap (λ (x : QPos). foremost comes_before x (all_spelled cut.left)) (sym known_end) ∙ may_be_spelled_first.earliest (slant_end FAR) cut.left (fraction_place FAR (pos 1) (omega (arith, ints))) left in
    ap (λ (s : QPos). stretch_of_run (run_of s (foremost comes_before (slant_end FAR) (all_spelled cut.left)) (cut.missed || false))) first
    ∙ ap (λ (t : QPos). stretch_of_run (run_of (spelled_quotient (start_of cut)) t (cut.missed || false))) last
    ∙ ap (λ (m : Bool). stretch_of_run (run_of (spelled_quotient (start_of cut)) (spelled_quotient (end_of FAR cut)) m)) (or_false cut.missed)
    ∙ ap (λ (s : Option Stretch). cond cut.missed None s) (between_spelled (start_of cut) (end_of FAR cut) place place')

pub runs_tell_segments : (surface : Surface) (o e : V3) → pos 0 <ℤ length_squared e → stretch_of_run (run_past whole_run (surface_cut surface o e)) ≡ slant_segment FAR surface o e
runs_tell_segments surface o e some =
    let ends = surface_ends FAR surface o e some in
    let tells = at_zero surface o e some in
    run_is (surface_cut surface o e) ends.first.place ends.last.place tells.entered_places tells.left_places

pub known_ahead : (is_ahead : QPos → QPos → Bool) (x y : QPos) → IsKnown x → IsKnown y → IsKnown (ahead_of is_ahead x y)
known_ahead is_ahead x y known known' = chosen (is_ahead y x)
  where
    chosen : (b : Bool) → IsKnown (cond b y x)
    chosen true = known'
    chosen false = known

pub fraction_fits : (p q : ℤ) → IsFractionInRange p q → FitsSigned w128 p
fraction_fits p q h = fits_signed_from_abs w128 p (omega (arith, h.over))

pub divisor_fits : (p q : ℤ) → IsFractionInRange p q → FitsSigned w128 q
divisor_fits p q h = fits_signed_from_abs w128 q (omega (arith, ints, h.positive, h.under))

pub chord_by : (run mid next : Run) (x y : QPos) (pace b k : ℤ) (m n : ℕ) → pos 0 <ℤ k → mid ≡ run_entered run x → next ≡ run_left mid y
    → x ≡ spelled_quotient (Quot b false m n) → y ≡ spelled_quotient (Quot b true m n) → k ≡ pos m → pace ≡ pos n → next ≡ run_past run (chord_cut pace b k)
chord_by run mid next x y pace b k zero n k_some mid_is is x_is y_is k_is pace_is = absurd (omega (arith, ints, k_some, k_is))
chord_by run mid next x y pace b k (suc m) n k_some mid_is is x_is y_is k_is pace_is =
    chord_through run mid next x y n b m mid_is is x_is y_is
    ∙ ap (λ (z : ℤ). run_past run (chord_cut z b (pos (suc m)))) (sym pace_is) ∙ ap (λ (z : ℤ). run_past run (chord_cut pace b z)) (sym k_is)

pub ball_through : (run next : Run) (c : V3) (r : ℤ) (o e apart : V3) (pace b k : ℤ) → next ≡ run_past run (chord_cut pace b k) → apart ≡ vector_difference c o → pace ≡ length_squared e
    → b ≡ nearest_along apart e → k ≡ half_chord_along apart r e → next ≡ run_past run (ball_cut c r o e)
ball_through run next c r o e apart pace b k is apart_is pace_is b_is k_is =
    is ∙ ap (λ (z : ℤ). run_past run (chord_cut z b k)) pace_is
    ∙ ap (λ (z : ℤ). run_past run (chord_cut (length_squared e) z k)) b_is
    ∙ ap (λ (z : ℤ). run_past run (chord_cut (length_squared e) (nearest_along apart e) z)) k_is
    ∙ ap (λ (v : V3). run_past run (chord_cut (length_squared e) (nearest_along v e) (half_chord_along v r e))) apart_is

pub side_along : (run next : Run) (c : V3) (r : ℤ) (axis : Axis) (o e first apart cut : V3) (pace over : ℤ) (holds : Bool) → next ≡ run_past run (held_or_missed holds) → holds ≡ is_gt (int_cmp over (pos 0))
    → first ≡ vector_difference c o → apart ≡ across axis first → cut ≡ across axis e → pace ≡ length_squared cut → over ≡ squared r -ℤ length_squared apart → pace ≡ pos 0 → next ≡ run_past run (side_cut (side_around c r axis) o e)
side_along run next c r axis o e first apart cut pace over holds is holds_is first_is apart_is cut_is pace_is over_value none =
    let at : over ≡ squared r -ℤ length_squared (apart_on (side_around c r axis) o) = over_value ∙ ap (λ (v : V3). squared r -ℤ length_squared v) (apart_is ∙ ap (across axis) first_is) in
    side_held run next (side_around c r axis) o e holds is (holds_is ∙ over_is over ∙ ap is_over at) (sym (ap length_squared cut_is) ∙ sym pace_is ∙ none)

pub side_across : (run next : Run) (c : V3) (r : ℤ) (axis : Axis) (o e first apart cut : V3) (pace b k : ℤ) → next ≡ run_past run (chord_cut pace b k) → first ≡ vector_difference c o → apart ≡ across axis first
    → cut ≡ across axis e → pace ≡ length_squared cut → b ≡ nearest_along apart cut → k ≡ half_chord_along apart r cut → pace ≢ pos 0 → next ≡ run_past run (side_cut (side_around c r axis) o e)
side_across run next c r axis o e first apart cut pace b k is first_is apart_is cut_is pace_is b_is k_is some =
    let at : apart ≡ apart_on (side_around c r axis) o = apart_is ∙ ap (across axis) first_is in
    side_through run next (side_around c r axis) o e pace b k is (pace_is ∙ ap length_squared cut_is)
    (b_is ∙ ap (λ (v : V3). nearest_along v cut) at ∙ ap (nearest_along (apart_on (side_around c r axis) o)) cut_is)
    (k_is ∙ ap (λ (v : V3). half_chord_along v r cut) at ∙ ap (half_chord_along (apart_on (side_around c r axis) o) r) cut_is)
    (λ none. some (pace_is ∙ ap length_squared cut_is ∙ none))

-- what of a vector is not 0 has a length over 0
pub some_pace : (v : V3) (pace : ℤ) → pace ≡ length_squared v → pace ≢ pos 0 → pos 0 <ℤ pace
some_pace v pace is some = subst (λ (z : ℤ). pos 0 <ℤ z) (sym is) (some_across v (λ none. some (is ∙ none)))

-- past all faces
pub run_of_faces : (surface : Surface) (o e direction : V3) (planes : List (Option Plane)) (round : Option Round) (first second third : Run) → e ≡ direction → pos 0 <ℤ length_squared direction
    → planes ≡ planes_of_faces surface → round ≡ round_of surface → first ≡ whole_run → second ≡ run_past first (planes_cut planes o e) → third ≡ run_past second (round_cut round o e)
    → stretch_of_run third ≡ slant_segment FAR surface o direction
run_of_faces surface o e direction planes round first second third e_is some planes_is round_is first_is second_is third_is =
    ap stretch_of_run (third_is
    ∙ ap (λ (r : Option Round). run_past second (round_cut r o e)) round_is
    ∙ ap (λ (run : Run). run_past run (round_cut (round_of surface) o e)) (second_is
    ∙ ap (λ (ps : List (Option Plane)). run_past first (planes_cut ps o e)) planes_is ∙ ap (λ (run : Run). run_past run (planes_cut (planes_of_faces surface) o e)) first_is)
    ∙ run_both whole_run (planes_cut (planes_of_faces surface) o e) (round_cut (round_of surface) o e)
    ∙ ap (λ (v : V3). run_past whole_run (surface_cut surface o v)) e_is)
    ∙ runs_tell_segments surface o direction some

pub between_range : (x y : QPos) → IsKnown x → IsKnown y → ForSome (stretch_between x y) AreEndsInRange
between_range x y known known' = λ s is.
    let h = segment_by x y s false is in
    subst AreEndsInRange h.is (spelling_stays_in_range x known.0, spelling_stays_in_range y known'.0)

pub opposite_size : (m z : ℤ) → IsAtMost m z → IsAtMost m (pos 0 -ℤ z)
opposite_size m z h = (omega (arith, ints, h.1), omega (arith, ints, h.0))
