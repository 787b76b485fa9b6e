-- The segment of a surface: what it tells of the points of a ray, and that it is sound.
use Rattle.std.proofs.Common.{◌≡◌, ◌≢◌, ◌∙◌, ℕ, ◌-◌, ℤ, pos, Bool, true, false, cond, List, [], ◌∷◌, Option, Some, None, refl, ap, sym, subst, inl, inr, arith}
use Rattle.std.specs.Prelude.{IfSome, IfNone, slice_index_or}
use Rattle.std.specs.Option.{ForSome}
use Rattle.std.proofs.lemmas.Cmp.{tied_itself}
use Rattle.std.specs.Cmp.{IsTotalOrder}
use Rattle.std.specs.Ordering.{is_lt, is_gt, ordering_reverse}
use Rattle.std.specs.declared.cmp.Ordering.{Ordering}
use Rattle.std.specs.declared.cmp.Ordering.TheVariants.{Less, Equal, Greater}
use Rattle.lattice_core.specs.declared.vector.V3.{V3}
use Rattle.lattice_core.specs.declared.ray.Ray.{Ray}
use Rattle.plane_geom.specs.declared.plane.Plane.{Plane}
use Rattle.plane_geom.specs.Planes.{slope_on}
use Rattle.plane_geom.specs.declared.chord.Chord.{Chord}
use Rattle.prim_sphere.specs.Spheres.{chord_at, HoldsBetween, HoldsOnceAtMost}
use Rattle.prim_sphere.proofs.Chords.{held_at, missed_at}
use Rattle.surd_order.specs.declared.position.Pos.{Pos}
use Rattle.surd_order.specs.declared.position.Seg.{Seg}
use Rattle.surd_order.specs.Order.{Precedes, IsPlace}
use Rattle.surd_order.proofs.FractionOrder.{fractions_same}
use Rattle.surd_order.proofs.LawProofs.{is_kept_by_same_place}
use Rattle.surd_order.proofs.OrderLaws.{same_symm}
use Rattle.surd_order.specs.Spelling.{IsSpelled}
use Rattle.surd_order.specs.PlaceOrder.{place_cmp}
use Rattle.surd_order.specs.Spelled.{spelled}
use Rattle.surd_order.proofs.SpelledPlaces.{is_one_spelling}
use Rattle.surd_order.proofs.PlaceOrderLaws.{places_are_compared}
use Rattle.solid_set.specs.declared.crossed.Crossed.{Crossed}
use Rattle.solid_set.specs.declared.surface.Surface.{Surface}
use Rattle.solid_set.specs.declared.surface.Surface.TheVariants.{Planes, HalfSpace, Ball, Cylinder}
use Rattle.solid_set.specs.Segments.{ray_start, ray_end, places_of, face_at, start_of, end_of, segment_between, segment_of, entering, leaving, is_missed, chord_end, is_no_chord}
use Rattle.solid_set.specs.Spans.{IsSpanInRange, ball_span, ball_crossed, finished_span, at}
use Rattle.solid_set.specs.Levels.{IsFaceOn}
use Rattle.solid_set.specs.Laws.{HoldsAtMostOne, TellsInside, IsSound, IsSegInRange}
use Rattle.solid_set.proofs.Ranking.{turned_cmp, forwards, backwards}
use Rattle.solid_set.proofs.Foremost.{IsForemost, IsBest, none_moved, foremost_is, best_first, best_next}
use Rattle.solid_set.proofs.SpanLaws.{ArePlaces, entering_places, leaving_places, finished_parts}
use Rattle.solid_set.proofs.InsideLaws.{IsCutBy, AreEnds, planes_held, missed_all, ends_are, tells}
use Rattle.solid_set.proofs.CylinderLaws.{cylinder_cut, cylinder_one, enter_cylinder, leave_cylinder, steep_cap}
use Rattle.prim_rcc.specs.declared.rcc.RccFaces.{RccFaces}
use Rattle.solid_set.proofs.BallLaws.{near_not_before, near_not_after, near_from}
use Rattle.solid_set.proofs.Faces.{segment_cut, steep_at}

planes_cut : (sides : List (Option Plane)) (ray : Ray) → is_missed (Planes sides) ray ≡ false → IsCutBy (Planes sides) ray (entering (Planes sides) ray) (leaving (Planes sides) ray)
planes_cut sides ray e = record {
  after = λ p q some h. (planes_held ray 1 sides p q some e).after h;
  before = λ p q some h. (planes_held ray 1 sides p q some e).before h;
  inside = λ p q some after before. (planes_held ray 1 sides p q some e).inside after before;
}

half_cut : (plane : Plane) (ray : Ray) → is_missed (HalfSpace plane) ray ≡ false → IsCutBy (HalfSpace plane) ray (entering (HalfSpace plane) ray) (leaving (HalfSpace plane) ray)
half_cut plane ray e = record {
  after = λ p q some h. (planes_held ray 1 (Some plane ∷ []) p q some e).after (h, tt);
  before = λ p q some h. (planes_held ray 1 (Some plane ∷ []) p q some e).before (h, tt);
  inside = λ p q some after before. ((planes_held ray 1 (Some plane ∷ []) p q some e).inside after before).0;
}

ball_cut : (c : V3) (r : ℤ) (ray : Ray) (o : Option Chord) → IfSome o (HoldsBetween c r ray) → is_no_chord o ≡ false → IsCutBy (Ball c r) ray (chord_end o false) (chord_end o true)
ball_cut c r ray None held e = absurd (let f : true ≡ false = e in cc)
ball_cut c r ray (Some chord) held e = record {
  after = λ p q some h. (near_not_before chord.a p q chord.k some ((held p q some).0 h), tt);
  before = λ p q some h. (near_not_after chord.a p q chord.k some ((held p q some).0 h), tt);
  inside = λ p q some after before. (held p q some).1 (near_from chord.a p q chord.k some after.0 before.0);
}

pub surface_cut : (surface : Surface) (ray : Ray) → is_missed surface ray ≡ false → IsCutBy surface ray (entering surface ray) (leaving surface ray)
surface_cut (Planes sides) ray e = planes_cut sides ray e
surface_cut (HalfSpace plane) ray e = half_cut plane ray e
surface_cut (Ball c r) ray e = ball_cut c r ray (chord_at c r ray) (held_at c r ray) e
surface_cut (Cylinder faces) ray e = cylinder_cut faces ray e

no_chord_one : (c : V3) (r : ℤ) (ray : Ray) (o : Option Chord) → IfNone o (HoldsOnceAtMost c r ray) → is_no_chord o ≡ true → HoldsAtMostOne (Ball c r) ray
no_chord_one c r ray None once e = λ p q p' q' on on' inside inside'. fractions_same p q p' q' on.positive on'.positive (once p q p' q' on.positive on'.positive inside inside')
no_chord_one c r ray (Some chord) once e = absurd (let f : false ≡ true = e in cc)

missed_one : (surface : Surface) (ray : Ray) → is_missed surface ray ≡ true → HoldsAtMostOne surface ray
missed_one (Planes sides) ray e = λ p q p' q' on on' inside inside'. absurd (missed_all ray sides e p q on.positive inside)
missed_one (HalfSpace plane) ray e = λ p q p' q' on on' inside inside'. absurd (missed_all ray (Some plane ∷ []) e p q on.positive (inside, tt))
missed_one (Ball c r) ray e = no_chord_one c r ray (chord_at c r ray) (missed_at c r ray) e
missed_one (Cylinder faces) ray e = cylinder_one faces ray e

chord_places : (o : Option Chord) (plus : Bool) → ArePlaces (chord_end o plus)
chord_places None plus = record { each = λ x has. absurd has }
chord_places (Some chord) plus = record { each = λ x has. elim has [ inl e ↦ subst IsPlace e tt | inr none ↦ absurd none ] }

pub enter_places : (surface : Surface) (ray : Ray) → ArePlaces (entering surface ray)
enter_places (Planes sides) ray = record { each = entering_places ray 1 sides }
enter_places (HalfSpace plane) ray = record { each = entering_places ray 1 (Some plane ∷ []) }
enter_places (Ball c r) ray = chord_places (chord_at c r ray) false
enter_places (Cylinder faces) ray = enter_cylinder faces ray

pub leave_places : (surface : Surface) (ray : Ray) → ArePlaces (leaving surface ray)
leave_places (Planes sides) ray = record { each = leaving_places ray 1 sides }
leave_places (HalfSpace plane) ray = record { each = leaving_places ray 1 (Some plane ∷ []) }
leave_places (Ball c r) ray = chord_places (chord_at c r ray) true
leave_places (Cylinder faces) ray = leave_cylinder faces ray

-- some place is foremost
foremost_more : (R : Pos → Pos → Ordering) → IsTotalOrder R → (first y x : Pos) (ys : List Pos) → IsForemost R first ys x → (r : Ordering) → R y x ≡ r → (z : Pos) × IsForemost R first (y ∷ ys) z
foremost_more R total first y x ys h Less e = (x, record { among = elim h.among [ inl same ↦ inl same | inr more ↦ inr (inr more) ]; ahead = (h.ahead.0, (ap is_gt e, h.ahead.1)) })
foremost_more R total first y x ys h Equal e = (x, record { among = elim h.among [ inl same ↦ inl same | inr more ↦ inr (inr more) ]; ahead = (h.ahead.0, (ap is_gt e, h.ahead.1)) })
foremost_more R total first y x ys h Greater e =
    let back : R x y ≡ Less = total.antisymm x y ∙ ap ordering_reverse e in
    let moved = none_moved R total x y (ap is_gt back) (first ∷ ys) h.ahead in
    (y, record { among = inr (inl refl); ahead = (moved.0, (ap is_gt (tied_itself total y), moved.1)) })

some_foremost : (R : Pos → Pos → Ordering) → IsTotalOrder R → (first : Pos) (rest : List Pos) → (x : Pos) × IsForemost R first rest x
some_foremost R total first [] = (first, record { among = inl refl; ahead = (ap is_gt (tied_itself total first), tt) })
some_foremost R total first (y ∷ ys) = let found = some_foremost R total first ys in foremost_more R total first y found.0 ys found.1 (R y found.0) refl

pub ends_of : (es ls : List Crossed) → ArePlaces es → ArePlaces ls → AreEnds es ls (start_of es) (end_of ls)
ends_of es ls places places' =
    let first = some_foremost place_cmp forwards.total ray_start (places_of es) in
    let last = some_foremost turned_cmp backwards.total ray_end (places_of ls) in
    ends_are es ls places places' (foremost_is place_cmp ray_start (places_of es) first.0 first.1) (foremost_is turned_cmp ray_end (places_of ls) last.0 last.1)

tells_by : (surface : Surface) (ray : Ray) (b : Bool) → is_missed surface ray ≡ b → TellsInside surface ray (cond b None (segment_between (entering surface ray) (leaving surface ray)))
tells_by surface ray true e = missed_one surface ray e
tells_by surface ray false e = tells surface ray (entering surface ray) (leaving surface ray) (surface_cut surface ray e) (ends_of (entering surface ray) (leaving surface ray) (enter_places surface ray) (leave_places surface ray))

pub segment_tells : (surface : Surface) (ray : Ray) → TellsInside surface ray (segment_of surface ray)
segment_tells surface ray = tells_by surface ray (is_missed surface ray) refl

sound_seg : (es ls : List Crossed) (seg : Seg) → AreEnds es ls (start_of es) (end_of ls) → seg.start ≡ spelled (start_of es) → seg.end ≡ spelled (end_of ls) → Precedes (start_of es) (end_of ls) → IsSegInRange seg → IsSound seg
sound_seg es ls seg ends s_is e_is before range =
    let s : Pos = start_of es in
    let e : Pos = end_of ls in
    let same = is_one_spelling.place (start_of es) ends.start_place in
    let same' = is_one_spelling.place (end_of ls) ends.end_place in
    let first : Precedes (spelled (start_of es)) (end_of ls) = is_kept_by_same_place.before (spelled (start_of es)) (start_of es) (end_of ls) same before in
    let ordered : Precedes (spelled (start_of es)) (spelled (end_of ls)) = is_kept_by_same_place.after (spelled (start_of es)) (end_of ls) (spelled (end_of ls)) first (same_symm _ _ same') in
    record {
      ordered = subst (λ (x : Pos). Precedes x seg.end) (sym s_is) (subst (λ (y : Pos). Precedes (spelled (start_of es)) y) (sym e_is) ordered);
      begun = λ early. ends.start_first ray_start (inl refl) (is_kept_by_same_place.before (start_of es) (spelled (start_of es)) ray_start (same_symm _ _ same) (subst (λ (x : Pos). Precedes x ray_start) s_is early));
      not_ended = λ late. ends.end_last ray_end (inl refl) (is_kept_by_same_place.after ray_end (spelled (end_of ls)) (end_of ls) (subst (λ (x : Pos). Precedes ray_end x) e_is late) same');
      start_range = range.start;
      start_spelled = subst IsSpelled (sym s_is) (is_one_spelling.spelling (start_of es) ends.start_place);
      end_range = range.end;
      end_spelled = subst IsSpelled (sym e_is) (is_one_spelling.spelling (end_of ls) ends.end_place);
    }

none_some : (seg : Seg) → None ≡ Some seg → ⊥
none_some seg e = cc

sound_by : (es ls : List Crossed) (seg : Seg) → AreEnds es ls (start_of es) (end_of ls) → (r : Ordering) → place_cmp (start_of es) (end_of ls) ≡ r
    → cond (is_lt r) (Some (let found : Seg = record { start = spelled (start_of es); start_face = face_at (start_of es) es; end = spelled (end_of ls); end_face = face_at (end_of ls) ls } in found)) None ≡ Some seg
    → IsSegInRange seg → IsSound seg
sound_by es ls seg ends Less order is range =
    let found : Seg = record { start = spelled (start_of es); start_face = face_at (start_of es) es; end = spelled (end_of ls); end_face = face_at (end_of ls) ls } in
    let same : found ≡ seg = cc in
    sound_seg es ls seg ends (ap (λ (s : Seg). s.start) (sym same)) (ap (λ (s : Seg). s.end) (sym same))
    ((places_are_compared (start_of es) (end_of ls) ends.start_place ends.end_place).less.0 order) range
sound_by es ls seg ends Equal order is range = absurd (none_some seg is)
sound_by es ls seg ends Greater order is range = absurd (none_some seg is)

missed_sound : (b : Bool) (es ls : List Crossed) (seg : Seg) → AreEnds es ls (start_of es) (end_of ls) → cond b None (segment_between es ls) ≡ Some seg → IsSegInRange seg → IsSound seg
missed_sound true es ls seg ends is range = absurd (none_some seg is)
missed_sound false es ls seg ends is range = sound_by es ls seg ends (place_cmp (start_of es) (end_of ls)) refl is range

pub segment_sound : (surface : Surface) (ray : Ray) (seg : Seg) → segment_of surface ray ≡ Some seg → IsSegInRange seg → IsSound seg
segment_sound surface ray seg is range =
    missed_sound (is_missed surface ray) (entering surface ray) (leaving surface ray) seg
    (ends_of (entering surface ray) (leaving surface ray) (enter_places surface ray) (leave_places surface ray)) is range

-- the ends of a segment are in their one spelling, in range or not
spelled_by : (es ls : List Crossed) (seg : Seg) → AreEnds es ls (start_of es) (end_of ls) → (b : Bool)
    → cond b (Some (let found : Seg = record { start = spelled (start_of es); start_face = face_at (start_of es) es; end = spelled (end_of ls); end_face = face_at (end_of ls) ls } in found)) None ≡ Some seg
    → IsSpelled seg.start × IsSpelled seg.end
spelled_by es ls seg ends true is =
    let found : Seg = record { start = spelled (start_of es); start_face = face_at (start_of es) es; end = spelled (end_of ls); end_face = face_at (end_of ls) ls } in
    let same : found ≡ seg = cc in
    subst (λ (s : Seg). IsSpelled s.start × IsSpelled s.end) same (is_one_spelling.spelling (start_of es) ends.start_place, is_one_spelling.spelling (end_of ls) ends.end_place)
spelled_by es ls seg ends false is = absurd (none_some seg is)

missed_spelled : (b : Bool) (es ls : List Crossed) (seg : Seg) → AreEnds es ls (start_of es) (end_of ls) → cond b None (segment_between es ls) ≡ Some seg → IsSpelled seg.start × IsSpelled seg.end
missed_spelled true es ls seg ends is = absurd (none_some seg is)
missed_spelled false es ls seg ends is = spelled_by es ls seg ends (is_lt (place_cmp (start_of es) (end_of ls))) is

pub segment_spelled : (surface : Surface) (ray : Ray) (seg : Seg) → segment_of surface ray ≡ Some seg → IsSpelled seg.start × IsSpelled seg.end
segment_spelled surface ray seg is =
    missed_spelled (is_missed surface ray) (entering surface ray) (leaving surface ray) seg
    (ends_of (entering surface ray) (leaving surface ray) (enter_places surface ray) (leave_places surface ray)) is

-- the span of a chord is the segment of the ball
pub ball_finished : (c : V3) (r : ℤ) (ray : Ray) (chord : Chord) → chord_at c r ray ≡ Some chord → IsSpanInRange (ball_span chord) → finished_span (ball_span chord) ≡ segment_of (Ball c r) ray
ball_finished c r ray chord is range =
    let es : List Crossed = ball_crossed chord false ∷ [] in
    let ls : List Crossed = ball_crossed chord true ∷ [] in
    let start : IsBest place_cmp ray_start es (ball_span chord).start = best_next place_cmp forwards ray_start [] (at 0 ray_start) (ball_crossed chord false) (best_first place_cmp forwards ray_start) (omega arith) in
    let end : IsBest turned_cmp ray_end ls (ball_span chord).end = best_next turned_cmp backwards ray_end [] (at 0 ray_end) (ball_crossed chord true) (best_first turned_cmp backwards ray_end) (omega arith) in
    finished_parts es ls (ball_span chord) (chord_places (Some chord) false) (chord_places (Some chord) true) range start end
    (foremost_is place_cmp ray_start (places_of es) (ball_span chord).start.place start.place)
    (foremost_is turned_cmp ray_end (places_of ls) (ball_span chord).end.place end.place)
    ∙ ap (λ (o : Option Chord). cond (is_no_chord o) None (segment_between (chord_end o false) (chord_end o true))) (sym is)

pub ball_none : (c : V3) (r : ℤ) (ray : Ray) → chord_at c r ray ≡ None → segment_of (Ball c r) ray ≡ None
ball_none c r ray is = ap (λ (o : Option Chord). cond (is_no_chord o) None (segment_between (chord_end o false) (chord_end o true))) is

-- a plane at an end of a segment is crossed
pub steep_sides : (sides : List (Option Plane)) (ray : Ray) (face : ℕ) → face ≢ 0 → IsFaceOn (Planes sides) ray face → ForSome (slice_index_or sides (face - 1) None) (λ plane. slope_on plane ray ≢ pos 0)
steep_sides sides ray face some on plane is =
    steep_at ray sides face plane some (elim on [ inl none ↦ inl none | inr at_end ↦ segment_cut ray sides face at_end ]) is

pub steep_half : (plane : Plane) (ray : Ray) (face : ℕ) → face ≢ 0 → IsFaceOn (HalfSpace plane) ray face → face ≡ 1 → slope_on plane ray ≢ pos 0
steep_half plane ray face some on one =
    steep_at ray (Some plane ∷ []) face plane some (elim on [ inl none ↦ inl none | inr at_end ↦ segment_cut ray (Some plane ∷ []) face at_end ])
    (subst (λ (k : ℕ). slice_index_or (Some plane ∷ []) (k - 1) None ≡ Some plane) (sym one) refl)

pub steep_base : (faces : RccFaces) (ray : Ray) (face : ℕ) → IsFaceOn (Cylinder faces) ray face → face ≡ 1 → slope_on faces.base ray ≢ pos 0
steep_base faces ray face on one =
    steep_cap faces ray face faces.base (λ e. omega (arith, e, one)) (λ e. omega (arith, e, one)) on
    (subst (λ (k : ℕ). slice_index_or (Some faces.base ∷ Some faces.top ∷ []) (k - 1) None ≡ Some faces.base) (sym one) refl)

pub steep_top : (faces : RccFaces) (ray : Ray) (face : ℕ) → IsFaceOn (Cylinder faces) ray face → face ≡ 2 → slope_on faces.top ray ≢ pos 0
steep_top faces ray face on two =
    steep_cap faces ray face faces.top (λ e. omega (arith, e, two)) (λ e. omega (arith, e, two)) on
    (subst (λ (k : ℕ). slice_index_or (Some faces.base ∷ Some faces.top ∷ []) (k - 1) None ≡ Some faces.top) (sym two) refl)
