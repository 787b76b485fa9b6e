-- Along an axis the segment is that of the plain ray.
use Rattle.std.proofs.Common.{◌≡◌, ◌∙◌, ℕ, zero, suc, ◌+◌, ℤ, pos, negsuc, ◌-ℤ◌, Bool, true, false, cond, ◌||◌, List, [], ◌∷◌, ◌++◌, Option, Some, None, refl, ap, sym, subst, inl, inr, arith}
use Rattle.std.proofs.lemmas.Int.{ints}
use Rattle.std.proofs.lemmas.Bool.Decides.{Decides-int_eq}
use Rattle.std.specs.Ordering.{int_cmp, is_lt}
use Rattle.std.specs.declared.cmp.Ordering.{Ordering}
use Rattle.std.specs.declared.cmp.Ordering.TheVariants.{Less, Equal, Greater}
use Rattle.std.proofs.lemmas.Cmp.{alike_right}
use Rattle.lattice_core.specs.declared.limit.TheConstants.{FAR}
use Rattle.lattice_core.specs.declared.ray.Dir.{Dir}
use Rattle.lattice_core.specs.declared.ray.Dir.TheVariants.{PlusX, MinusX, PlusY, MinusY, PlusZ, MinusZ}
use Rattle.lattice_core.specs.declared.ray.Ray.{Ray}
use Rattle.lattice_core.specs.declared.vector.V3.{V3}
use Rattle.lattice_core.specs.Units.{unit_of}
use Rattle.lattice_core.specs.Vectors.{vector_difference}
use Rattle.plane_geom.specs.declared.plane.Plane.{Plane}
use Rattle.plane_geom.specs.declared.plane.Crossing.TheVariants as crossing
use Rattle.plane_geom.specs.Planes.{slope_along, start_at}
use Rattle.plane_geom.specs.Crossings.{holds_along, crossing_by}
use Rattle.plane_geom.specs.Chords.{squared, length_squared, half_chord_along, chord_of}
use Rattle.prim_sphere.specs.Spheres.{nearest_on as nearest_to, half_chord_squared, chord_at}
use Rattle.prim_sphere.proofs.Chords.{half_is}
use Rattle.prim_rcc.specs.declared.axis.Axis.{Axis}
use Rattle.prim_rcc.specs.declared.axis.Axis.TheVariants.{X, Y, Z}
use Rattle.prim_rcc.specs.declared.side.RoundSide.{RoundSide}
use Rattle.prim_rcc.specs.Axes.{across_squared, IsAlong, is_along}
use Rattle.prim_rcc.specs.Sides.{apart_on, nearest_on, half_chord_on, round_crossing, through_or_missed, held_or_missed as held_round}
use Rattle.solid_set.specs.declared.crossed.Crossed.{Crossed}
use Rattle.solid_set.specs.declared.surface.Round.{Round}
use Rattle.solid_set.specs.declared.surface.Surface.{Surface}
use Rattle.solid_set.specs.Crossings.{entered, left, is_miss, entering_from, leaving_from, is_missed_by}
use Rattle.solid_set.specs.Segments.{ray_start, ray_end, places_of, face_at, segment_between, segment_of, entering, leaving, is_missed, chord_end, is_no_chord, round_end, is_round_miss, start_of as ray_start_of, end_of as ray_end_of}
use Rattle.solid_set.specs.PlacedFaces.{planes_of_faces, round_of, side_around, crossed_around, round_crossed, is_missed_around, is_round_missed}
use Rattle.solid_set.proofs.FacesAlong.{surfaces_are_of_faces}
use Rattle.solid_set.proofs.Foremost.{Has as HasPosition}
use Rattle.solid_set.proofs.InsideLaws.{AreEnds as ArePlainEnds}
use Rattle.solid_set.proofs.SurfaceLaws.{enter_places, leave_places, ends_of}
use Rattle.surd_order.specs.declared.position.Pos.{Pos}
use Rattle.surd_order.specs.declared.position.Seg.{Seg}
use Rattle.surd_order.specs.Order.{Precedes}
use Rattle.surd_order.specs.PlaceOrder.{place_cmp}
use Rattle.surd_order.specs.Spelled.{spelled}
use Rattle.surd_quot.specs.declared.position.QPos.{QPos}
use Rattle.surd_quot.specs.declared.position.QPos.TheVariants.{Frac}
use Rattle.surd_quot.specs.Positions.{as_quotient_position, quotient_of, IsQuotientPlace}
use Rattle.surd_quot.specs.Quotients.{QuotientPrecedes, as_quotient}
use Rattle.surd_quot.specs.PlaceOrder.{quotient_cmp}
use Rattle.surd_quot.specs.Spelled.{spelled_quotient}
use Rattle.surd_quot.proofs.Quotients.{plain_order, quotient_of_position}
use Rattle.surd_quot.proofs.PlaceOrderLaws.{quotient_cmp_total, quotient_places_are_compared, position_comparison, position_is_place}
use Rattle.surd_quot.proofs.PositionLaws.{positions_are_quotient_positions}
use Rattle.surd_quot.proofs.SpelledQuotients.{is_one_quotient_spelling}
use Rattle.oblique_ray.specs.Cuts.{LineCut, uncut, both_cut, held_or_missed, plane_cut_by, chord_cut, ball_cut, is_over, side_cut, cut_around, round_cut, planes_cut, surface_cut}
use Rattle.oblique_ray.specs.Segments.{Stretch, slant_start, slant_end, start_of, end_of, stretch_between, slant_segment}
use Rattle.oblique_ray.specs.Places.{Before, AtOnePlace}
use Rattle.oblique_ray.specs.Axes.{stretch_of, AxesAreAsBefore}
use Rattle.oblique_ray.proofs.Foremost.{Has, After, IsForemost}
use Rattle.oblique_ray.proofs.SegmentLaws.{surface_ends}

-- crossings as places of the line
abbrev as_places : List Crossed → List QPos
as_places [] = []
as_places (c ∷ cs) = as_quotient_position c.place ∷ as_places cs

-- what faces do to a line is what they do to the ray
record IsSameCut (cut : LineCut) (es ls : List Crossed) (b : Bool) : Type 0 where
  entering_same : cut.entered ≡ as_places es
  leaving_same : cut.left ≡ as_places ls
  missed_same : cut.missed ≡ b

flat_step : (n : ℕ) (b : Bool) (d : LineCut) (es ls : List Crossed) (m : Bool) → IsSameCut d es ls m
    → IsSameCut (both_cut (held_or_missed b) d) (entered n (cond b crossing.Holds crossing.Misses) ++ es) (left n (cond b crossing.Holds crossing.Misses) ++ ls) (is_miss (cond b crossing.Holds crossing.Misses) || m)
flat_step n true d es ls m h = record { entering_same = h.entering_same; leaving_same = h.leaving_same; missed_same = h.missed_same }
flat_step n false d es ls m h = record { entering_same = h.entering_same; leaving_same = h.leaving_same; missed_same = refl }

plane_step : (n : ℕ) (plane : Plane) (ray : Ray) (r : Ordering) (d : LineCut) (es ls : List Crossed) (m : Bool) → IsSameCut d es ls m
    → IsSameCut (both_cut (plane_cut_by r plane ray.origin (unit_of ray.dir)) d) (entered n (crossing_by r plane ray) ++ es) (left n (crossing_by r plane ray) ++ ls) (is_miss (crossing_by r plane ray) || m)
plane_step n plane ray Less d es ls m h = record {
  entering_same = ap (λ (xs : List QPos). Frac (start_at plane ray.origin -ℤ plane.d) (pos 0 -ℤ slope_along plane (unit_of ray.dir)) ∷ xs) h.entering_same;
  leaving_same = h.leaving_same;
  missed_same = h.missed_same;
}
plane_step n plane ray Equal d es ls m h = flat_step n (holds_along plane.n (plane.d -ℤ start_at plane ray.origin)) d es ls m h
plane_step n plane ray Greater d es ls m h = record {
  entering_same = h.entering_same;
  leaving_same = ap (λ (xs : List QPos). Frac (plane.d -ℤ start_at plane ray.origin) (slope_along plane (unit_of ray.dir)) ∷ xs) h.leaving_same;
  missed_same = h.missed_same;
}

nothing_same : IsSameCut uncut [] [] false
nothing_same = record { entering_same = refl; leaving_same = refl; missed_same = refl }

planes_same : (ray : Ray) (n : ℕ) (sides : List (Option Plane)) → IsSameCut (planes_cut sides ray.origin (unit_of ray.dir)) (entering_from ray n sides) (leaving_from ray n sides) (is_missed_by ray sides)
planes_same ray n [] = nothing_same
planes_same ray n (None ∷ sides) = planes_same ray (n + 1) sides
planes_same ray n (Some plane ∷ sides) =
    plane_step n plane ray (int_cmp (slope_along plane (unit_of ray.dir)) (pos 0)) (planes_cut sides ray.origin (unit_of ray.dir)) (entering_from ray (n + 1) sides) (leaving_from ray (n + 1) sides) (is_missed_by ray sides)
    (planes_same ray (n + 1) sides)

as_places_append : (cs ds : List Crossed) → as_places (cs ++ ds) ≡ as_places cs ++ as_places ds
as_places_append [] ds = refl
as_places_append (c ∷ cs) ds = ap (λ (xs : List QPos). as_quotient_position c.place ∷ xs) (as_places_append cs ds)

appended : (xs ys : List QPos) (cs ds : List Crossed) → xs ≡ as_places cs → ys ≡ as_places ds → xs ++ ys ≡ as_places (cs ++ ds)
appended xs ys cs ds one two = ap (λ (zs : List QPos). zs ++ ys) one ∙ ap (λ (zs : List QPos). as_places cs ++ zs) two ∙ sym (as_places_append cs ds)

both_same : (c d : LineCut) (es ls es' ls' : List Crossed) (m m' : Bool) → IsSameCut c es ls m → IsSameCut d es' ls' m' → IsSameCut (both_cut c d) (es ++ es') (ls ++ ls') (m || m')
both_same c d es ls es' ls' m m' h g = record {
  entering_same = appended c.entered d.entered es es' h.entering_same g.entering_same;
  leaving_same = appended c.left d.left ls ls' h.leaving_same g.leaving_same;
  missed_same = ap (λ (b : Bool). b || d.missed) h.missed_same ∙ ap (λ (b : Bool). m || b) g.missed_same;
}

-- what is round
round_one : (b k : ℤ) → IsSameCut (chord_cut (pos 1) b k) (chord_end (chord_of b k) false) (chord_end (chord_of b k) true) (is_no_chord (chord_of b k))
round_one b (pos zero) = record { entering_same = refl; leaving_same = refl; missed_same = refl }
round_one b (pos (suc k)) = record { entering_same = refl; leaving_same = refl; missed_same = refl }
round_one b (negsuc k) = record { entering_same = refl; leaving_same = refl; missed_same = refl }

unit_length : (d : Dir) → length_squared (unit_of d) ≡ pos 1
unit_length PlusX = refl
unit_length MinusX = refl
unit_length PlusY = refl
unit_length MinusY = refl
unit_length PlusZ = refl
unit_length MinusZ = refl

ball_same : (c : V3) (r : ℤ) (ray : Ray) → IsSameCut (ball_cut c r ray.origin (unit_of ray.dir)) (chord_end (chord_at c r ray) false) (chord_end (chord_at c r ray) true) (is_no_chord (chord_at c r ray))
ball_same c r ray =
    let b : ℤ = nearest_to c ray in
    let k : ℤ = half_chord_squared c r ray in
    subst (λ (z : ℤ). IsSameCut (chord_cut z b (half_chord_along (vector_difference c ray.origin) r (unit_of ray.dir))) (chord_end (chord_of b k) false) (chord_end (chord_of b k) true) (is_no_chord (chord_of b k))) (sym (unit_length ray.dir))
    (subst (λ (z : ℤ). IsSameCut (chord_cut (pos 1) b z) (chord_end (chord_of b k) false) (chord_end (chord_of b k) true) (is_no_chord (chord_of b k))) (sym (half_is c r ray)) (round_one b k))

side_one : (b k : ℤ) → IsSameCut (chord_cut (pos 1) b k) (round_end (through_or_missed (chord_of b k)) false) (round_end (through_or_missed (chord_of b k)) true) (is_round_miss (through_or_missed (chord_of b k)))
side_one b (pos zero) = record { entering_same = refl; leaving_same = refl; missed_same = refl }
side_one b (pos (suc k)) = record { entering_same = refl; leaving_same = refl; missed_same = refl }
side_one b (negsuc k) = record { entering_same = refl; leaving_same = refl; missed_same = refl }

side_flat : (k : ℤ) → IsSameCut (held_or_missed (is_over k)) (round_end (held_round k) false) (round_end (held_round k) true) (is_round_miss (held_round k))
side_flat (pos zero) = record { entering_same = refl; leaving_same = refl; missed_same = refl }
side_flat (pos (suc k)) = record { entering_same = refl; leaving_same = refl; missed_same = refl }
side_flat (negsuc k) = record { entering_same = refl; leaving_same = refl; missed_same = refl }

pace_one : (axis : Axis) (d : Dir) → ¬ (IsAlong axis (unit_of d)) → across_squared axis (unit_of d) ≡ pos 1
pace_one X PlusX some = absurd (some refl)
pace_one X MinusX some = absurd (some refl)
pace_one X PlusY some = refl
pace_one X MinusY some = refl
pace_one X PlusZ some = refl
pace_one X MinusZ some = refl
pace_one Y PlusX some = refl
pace_one Y MinusX some = refl
pace_one Y PlusY some = absurd (some refl)
pace_one Y MinusY some = absurd (some refl)
pace_one Y PlusZ some = refl
pace_one Y MinusZ some = refl
pace_one Z PlusX some = refl
pace_one Z MinusX some = refl
pace_one Z PlusY some = refl
pace_one Z MinusY some = refl
pace_one Z PlusZ some = absurd (some refl)
pace_one Z MinusZ some = absurd (some refl)

side_by : (side : RoundSide) (ray : Ray) (b k z : ℤ) (t : Bool) → is_along side.axis (unit_of ray.dir) ≡ t
    → IsSameCut (cond t (held_or_missed (is_over z)) (chord_cut (across_squared side.axis (unit_of ray.dir)) b k))
    (round_end (cond t (held_round z) (through_or_missed (chord_of b k))) false) (round_end (cond t (held_round z) (through_or_missed (chord_of b k))) true) (is_round_miss (cond t (held_round z) (through_or_missed (chord_of b k))))
side_by side ray b k z true is = side_flat z
side_by side ray b k z false is =
    let steep : ¬ (IsAlong side.axis (unit_of ray.dir)) = λ along. absurd (let t : is_along side.axis (unit_of ray.dir) ≡ true = (Decides-int_eq (across_squared side.axis (unit_of ray.dir)) (pos 0)).1 along in let f : true ≡ false = sym t ∙ is in cc) in
    subst (λ (w : ℤ). IsSameCut (chord_cut w b k) (round_end (through_or_missed (chord_of b k)) false) (round_end (through_or_missed (chord_of b k)) true) (is_round_miss (through_or_missed (chord_of b k)))) (sym (pace_one side.axis ray.dir steep)) (side_one b k)

side_same : (side : RoundSide) (ray : Ray) → IsSameCut (side_cut side ray.origin (unit_of ray.dir)) (round_end (round_crossing side ray) false) (round_end (round_crossing side ray) true) (is_round_miss (round_crossing side ray))
side_same side ray =
    side_by side ray (nearest_on side ray.origin (unit_of ray.dir)) (half_chord_on side ray.origin (unit_of ray.dir)) (squared side.radius -ℤ length_squared (apart_on side ray.origin)) (is_along side.axis (unit_of ray.dir)) refl

same_moved : (cut : LineCut) (es es' ls ls' : List Crossed) (b b' : Bool) → es' ≡ es → ls' ≡ ls → b' ≡ b → IsSameCut cut es ls b → IsSameCut cut es' ls' b'
same_moved cut es es' ls ls' b b' one two three h = record {
  entering_same = h.entering_same ∙ ap as_places (sym one);
  leaving_same = h.leaving_same ∙ ap as_places (sym two);
  missed_same = h.missed_same ∙ sym three;
}

around_same : (axis : Option Axis) (c : V3) (r : ℤ) (ray : Ray)
    → IsSameCut (cut_around axis c r ray.origin (unit_of ray.dir)) (crossed_around axis c r ray false) (crossed_around axis c r ray true) (is_missed_around axis c r ray)
around_same None c r ray = ball_same c r ray
around_same (Some axis) c r ray = side_same (side_around c r axis) ray

round_same : (round : Option Round) (ray : Ray) → IsSameCut (round_cut round ray.origin (unit_of ray.dir)) (round_crossed round ray false) (round_crossed round ray true) (is_round_missed round ray)
round_same None ray = nothing_same
round_same (Some round) ray = around_same round.axis round.centre round.radius ray

surface_same : (surface : Surface) (ray : Ray) → IsSameCut (surface_cut surface ray.origin (unit_of ray.dir)) (entering surface ray) (leaving surface ray) (is_missed surface ray)
surface_same surface ray =
    let planes : List (Option Plane) = planes_of_faces surface in
    let round : Option Round = round_of surface in
    let faces = surfaces_are_of_faces surface ray in
    same_moved (surface_cut surface ray.origin (unit_of ray.dir))
    (entering_from ray 1 (planes_of_faces surface) ++ round_crossed (round_of surface) ray false) (entering surface ray)
    (leaving_from ray 1 (planes_of_faces surface) ++ round_crossed (round_of surface) ray true) (leaving surface ray)
    (is_missed_by ray (planes_of_faces surface) || is_round_missed (round_of surface) ray) (is_missed surface ray)
    faces.enters faces.leaves faces.misses
    (both_same (planes_cut planes ray.origin (unit_of ray.dir)) (round_cut round ray.origin (unit_of ray.dir))
    (entering_from ray 1 planes) (leaving_from ray 1 planes) (round_crossed round ray false) (round_crossed round ray true) (is_missed_by ray planes) (is_round_missed round ray)
    (planes_same ray 1 planes) (round_same round ray))

-- the greatest and the least of them are at one place
has_up : (cs : List Crossed) (y : Pos) → HasPosition (places_of cs) y → Has (as_places cs) (as_quotient_position y)
has_up [] y has = absurd has
has_up (c ∷ cs) y has = elim has [ inl e ↦ inl (ap as_quotient_position e) | inr more ↦ inr (has_up cs y more) ]

record IsPositionOf (cs : List Crossed) (x : QPos) : Type 0 where
  y : Pos
  among : HasPosition (places_of cs) y
  is : as_quotient_position y ≡ x

has_down : (cs : List Crossed) (x : QPos) → Has (as_places cs) x → IsPositionOf cs x
has_down [] x has = absurd has
has_down (c ∷ cs) x has = elim has [
  | inl e ↦ record { y = c.place; among = inl refl; is = e }
  | inr more ↦ let h = has_down cs x more in record { y = h.y; among = inr h.among; is = h.is }
]

plain_before : (x y : Pos) → Before (as_quotient_position x) (as_quotient_position y) → Precedes x y
plain_before x y h =
    plain_order x y (subst (λ u. QuotientPrecedes u (as_quotient y)) (quotient_of_position x) (subst (λ v. QuotientPrecedes (quotient_of (as_quotient_position x)) v) (quotient_of_position y) h))

start_tie : (es ls : List Crossed) (s : QPos) (x y : Pos) → IsForemost After slant_start (as_places es) s → ArePlainEnds es ls x y → AtOnePlace s (as_quotient_position x)
start_tie es ls s x y best ends = record {
  not_before = best.ahead (as_quotient_position x) (elim ends.start_among [ inl e ↦ inl (ap as_quotient_position e) | inr more ↦ inr (has_up es x more) ]);
  not_after = λ h. elim best.among [
    | inl e ↦ ends.start_first ray_start (inl refl) (plain_before x ray_start (subst (λ (z : QPos). Before (as_quotient_position x) z) (sym e) h))
    | inr more ↦ let got = has_down es s more in ends.start_first got.y (inr got.among) (plain_before x got.y (subst (λ (z : QPos). Before (as_quotient_position x) z) (sym got.is) h))
  ];
}

end_tie : (es ls : List Crossed) (t : QPos) (x y : Pos) → IsForemost Before (slant_end FAR) (as_places ls) t → ArePlainEnds es ls x y → AtOnePlace t (as_quotient_position y)
end_tie es ls t x y best ends = record {
  not_before = λ h. elim best.among [
    | inl e ↦ ends.end_last ray_end (inl refl) (plain_before ray_end y (subst (λ (z : QPos). Before z (as_quotient_position y)) (sym e) h))
    | inr more ↦ let got = has_down ls t more in ends.end_last got.y (inr got.among) (plain_before got.y y (subst (λ (z : QPos). Before z (as_quotient_position y)) (sym got.is) h))
  ];
  not_after = best.ahead (as_quotient_position y) (elim ends.end_among [ inl e ↦ inl (ap as_quotient_position e) | inr more ↦ inr (has_up ls y more) ]);
}

spelled_same : (s : QPos) (x : Pos) → IsQuotientPlace s → IsQuotientPlace (as_quotient_position x) → AtOnePlace s (as_quotient_position x) → spelled_quotient s ≡ spelled_quotient (as_quotient_position x)
spelled_same s x place place' same = (is_one_quotient_spelling.one s (as_quotient_position x) place place').1 same

made_at : (c : Bool) (x y : Pos) (f g : ℕ) → cond c (Some (record { start = as_quotient_position x; end = as_quotient_position y })) None ≡ stretch_of (cond c (Some (record { start = x; start_face = f; end = y; end_face = g })) None)
made_at true x y f g = refl
made_at false x y f g = refl

missed_at : (c : Bool) (a : Option Stretch) (b : Option Seg) → a ≡ stretch_of b → cond c None a ≡ stretch_of (cond c None b)
missed_at true a b e = refl
missed_at false a b e = e

between_same : (es ls : List Crossed) (s t : QPos) → IsForemost After slant_start (as_places es) s → IsForemost Before (slant_end FAR) (as_places ls) t → ArePlainEnds es ls (ray_start_of es) (ray_end_of ls)
    → stretch_between s t ≡ stretch_of (segment_between es ls)
between_same es ls s t first last ends =
    let x : Pos = ray_start_of es in
    let y : Pos = ray_end_of ls in
    let x_place = position_is_place x ends.start_place in
    let y_place = position_is_place y ends.end_place in
    let one = start_tie es ls s x y first ends in
    let two = end_tie es ls t x y last ends in
    let start : spelled_quotient s ≡ as_quotient_position (spelled (ray_start_of es)) = spelled_same s x first.place x_place one ∙ positions_are_quotient_positions.spelling x ends.start_place in
    let end : spelled_quotient t ≡ as_quotient_position (spelled (ray_end_of ls)) = spelled_same t y last.place y_place two ∙ positions_are_quotient_positions.spelling y ends.end_place in
    let one_cmp : quotient_cmp s (as_quotient_position x) ≡ Equal = (quotient_places_are_compared s (as_quotient_position x) first.place x_place).same.1 one in
    let two_cmp : quotient_cmp t (as_quotient_position y) ≡ Equal = (quotient_places_are_compared t (as_quotient_position y) last.place y_place).same.1 two in
    let order : quotient_cmp s t ≡ place_cmp (ray_start_of es) (ray_end_of ls) =
    quotient_cmp_total.congr s (as_quotient_position x) t one_cmp ∙ alike_right quotient_cmp_total t (as_quotient_position y) (as_quotient_position x) two_cmp ∙ position_comparison x y ends.start_place ends.end_place in
    ap (λ (r : Ordering). cond (is_lt r) (Some (record { start = spelled_quotient s; end = spelled_quotient t })) None) order
    ∙ (ap (λ (u : QPos). cond (is_lt (place_cmp x y)) (Some (record { start = u; end = spelled_quotient t })) None) start
    ∙ (ap (λ (v : QPos). cond (is_lt (place_cmp x y)) (Some (record { start = as_quotient_position (spelled (ray_start_of es)); end = v })) None) end
    ∙ made_at (is_lt (place_cmp (ray_start_of es) (ray_end_of ls))) (spelled (ray_start_of es)) (spelled (ray_end_of ls)) (face_at (ray_start_of es) es) (face_at (ray_end_of ls) ls)))

segment_same : (surface : Surface) (ray : Ray) → slant_segment FAR surface ray.origin (unit_of ray.dir) ≡ stretch_of (segment_of surface ray)
segment_same surface ray =
    let cut : LineCut = surface_cut surface ray.origin (unit_of ray.dir) in
    let same = surface_same surface ray in
    let ends = surface_ends FAR surface ray.origin (unit_of ray.dir) (omega (arith, ints, unit_length ray.dir)) in
    let s : QPos = start_of (surface_cut surface ray.origin (unit_of ray.dir)) in
    let t : QPos = end_of FAR (surface_cut surface ray.origin (unit_of ray.dir)) in
    let first = subst (λ (xs : List QPos). IsForemost After slant_start xs s) same.entering_same ends.first in
    let last = subst (λ (xs : List QPos). IsForemost Before (slant_end FAR) xs t) same.leaving_same ends.last in
    ap (λ (b : Bool). cond b None (stretch_between s t)) same.missed_same
    ∙ missed_at (is_missed surface ray) (stretch_between s t) (segment_between (entering surface ray) (leaving surface ray))
    (between_same (entering surface ray) (leaving surface ray) s t first last (ends_of (entering surface ray) (leaving surface ray) (enter_places surface ray) (leave_places surface ray)))

pub axes_are_as_before : AxesAreAsBefore
axes_are_as_before = record { segment = segment_same; inside = λ surface ray p q. (surfaces_are_of_faces surface ray).inside p q }
