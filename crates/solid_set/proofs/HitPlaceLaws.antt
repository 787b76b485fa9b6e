-- What the hit places of a surface tell of the points between them.
use Rattle.std.proofs.Common.{◌≡◌, ◌↔◌, ◌≤◌, ◌+◌, ℕ, zero, suc, ℤ, pos, negsuc, ◌-ℤ◌, ◌*ℤ◌, ◌<ℤ◌, ◌≤ℤ◌, Bool, true, false, cond, List, [], ◌∷◌, ◌++◌, length, Option, Some, None, IfSome, refl, sym, subst, inl, inr, arith}
use Rattle.std.proofs.lemmas.Int.{ints}
use Rattle.std.proofs.lemmas.List.{length-append}
use native.Mathlib.Bridge.{le_prop}
use Rattle.std.proofs.Math.Logic.{∥∥₁_elim}
use Rattle.std.specs.Option.{ForSome}
use Rattle.std.specs.Ordering.{is_lt}
use Rattle.std.specs.declared.cmp.Ordering.{Ordering}
use Rattle.std.specs.declared.cmp.Ordering.TheVariants.{Less}
use Rattle.lattice_core.specs.declared.boxes.Box3.{Box3}
use Rattle.lattice_core.specs.declared.placement.Placement.{Placement}
use Rattle.lattice_core.specs.declared.ray.Ray.{Ray}
use Rattle.lattice_core.specs.declared.vector.V3.{V3}
use Rattle.lattice_core.specs.Placements.{placed}
use Rattle.lattice_core.specs.Rays.{IsOnRay}
use Rattle.lattice_core.proofs.Products.{mul_below, square_at_least}
use Rattle.plane_geom.specs.declared.plane.Plane.{Plane}
use Rattle.plane_geom.specs.declared.plane.Crossing.{Crossing}
use Rattle.plane_geom.specs.declared.plane.Crossing.TheVariants.{Enters, Leaves, Holds, Misses}
use Rattle.plane_geom.specs.Crossings.{crossing_of, side_crossing}
use Rattle.plane_geom.specs.Planes.{placed_plane}
use Rattle.prim_arb8.specs.Faces.{planes_of}
use Rattle.prim_sphere.specs.Spheres.{squared, nearest_on, half_chord_squared, chord_of, IsNear}
use Rattle.prim_sphere.proofs.Chords.{held_near}
use Rattle.plane_geom.proofs.Lines.{near_none}
use Rattle.prim_rcc.specs.declared.rcc.RccFaces.{RccFaces}
use Rattle.prim_rcc.specs.declared.side.RoundSide.{RoundSide}
use Rattle.prim_rcc.specs.Cylinders.{faces_of, placed_faces}
use Rattle.prim_rcc.specs.Sides.{SideHolds, apart_on, held_or_missed, through_or_missed, round_crossing}
use Rattle.prim_rcc.proofs.Rounds.{a_on, k_on, runs_along, side_near, side_along}
use Rattle.plane_geom.specs.Chords.{length_squared}
use Rattle.solid_set.proofs.CylinderLaws.{has_parts, crossed_round}
use Rattle.solid_set.proofs.InsideLaws.{missed_or}
use Rattle.surd_order.specs.declared.position.Pos.{Pos}
use Rattle.surd_order.specs.declared.position.Pos.TheVariants.{Frac, Surd}
use Rattle.surd_order.specs.declared.position.Seg.{Seg}
use Rattle.surd_order.specs.Order.{Precedes, SamePlace, IsPlace}
use Rattle.surd_order.specs.PlaceOrder.{place_cmp}
use Rattle.surd_order.specs.Spelled.{spelled}
use Rattle.surd_order.proofs.LawProofs.{outcome, is_kept_by_same_place}
use Rattle.surd_order.proofs.OrderLaws.{same_symm, transitive, not_before_fraction}
use Rattle.surd_order.proofs.PlaceOrderLaws.{places_are_compared}
use Rattle.surd_order.proofs.SpelledPlaces.{is_one_spelling}
use Rattle.solid_set.specs.declared.crossed.Crossed.{Crossed}
use Rattle.solid_set.specs.declared.solid.Solid.{Solid}
use Rattle.solid_set.specs.declared.solid.Solid.TheVariants as solids
use Rattle.solid_set.specs.declared.surface.Surface.{Surface}
use Rattle.solid_set.specs.declared.surface.Surface.TheVariants.{Planes, HalfSpace, Ball, Cylinder}
use Rattle.solid_set.specs.Crossings.{entered, left, entering_from, leaving_from, is_missed_by}
use Rattle.solid_set.specs.HitPlaces.{crossing_places, side_places, root_places, round_places, surface_places, hit_places, IsAtOneOf, IsHitPlace, LiesBetweenEnds, EndsAreHitPlaces, TellsByHitPlaces}
use Rattle.solid_set.specs.Laws.{TellsInside, IsSegInRange}
use Rattle.solid_set.specs.Segments.{ray_start, ray_end, places_of, face_at, start_of, end_of, segment_between, segment_of, entering, leaving, is_missed, chord_end, is_no_chord, caps_of, round_end, is_round_miss}
use Rattle.solid_set.specs.Surfaces.{IsInside, IsMade, surface_of, placed_sides, plane_of_half}
use Rattle.solid_set.proofs.BallLaws.{near_not_before}
use Rattle.solid_set.proofs.Foremost.{Has}
use Rattle.solid_set.proofs.InsideLaws.{AreEnds, has_none_after, has_none_before, missed_all, on_ray_within}
use Rattle.solid_set.proofs.SurfaceLaws.{surface_cut, enter_places, leave_places, ends_of, segment_tells, segment_sound}

-- a position at the place of one of a list
pub at_one : (ys : List Pos) (x y : Pos) → Has ys y → SamePlace x y → IsAtOneOf ys x
at_one [] x y has same = absurd has
at_one (z ∷ zs) x y has same = elim has [ inl e ↦ inl (subst (SamePlace x) (sym e) same) | inr more ↦ inr (at_one zs x y more same) ]

-- the crossings are among the places of the planes
entered_here : (n : ℕ) (c : Crossing) (rest : List Crossed) (more : List Pos) (x : Pos) → (Has (places_of rest) x → Has more x) → Has (places_of (entered n c ++ rest)) x → Has (crossing_places c ++ more) x
entered_here n (Enters p q) rest more x f has = elim has [ inl e ↦ inl e | inr later ↦ inr (f later) ]
entered_here n (Leaves p q) rest more x f has = inr (f has)
entered_here n Holds rest more x f has = f has
entered_here n Misses rest more x f has = f has

left_here : (n : ℕ) (c : Crossing) (rest : List Crossed) (more : List Pos) (x : Pos) → (Has (places_of rest) x → Has more x) → Has (places_of (left n c ++ rest)) x → Has (crossing_places c ++ more) x
left_here n (Enters p q) rest more x f has = inr (f has)
left_here n (Leaves p q) rest more x f has = elim has [ inl e ↦ inl e | inr later ↦ inr (f later) ]
left_here n Holds rest more x f has = f has
left_here n Misses rest more x f has = f has

entering_sides : (ray : Ray) (n : ℕ) (sides : List (Option Plane)) (x : Pos) → Has (places_of (entering_from ray n sides)) x → Has (side_places ray sides) x
entering_sides ray n [] x has = absurd has
entering_sides ray n (None ∷ sides) x has = entering_sides ray (n + 1) sides x has
entering_sides ray n (Some plane ∷ sides) x has =
    entered_here n (crossing_of plane ray) (entering_from ray (n + 1) sides) (side_places ray sides) x (λ more. entering_sides ray (n + 1) sides x more) has

leaving_sides : (ray : Ray) (n : ℕ) (sides : List (Option Plane)) (x : Pos) → Has (places_of (leaving_from ray n sides)) x → Has (side_places ray sides) x
leaving_sides ray n [] x has = absurd has
leaving_sides ray n (None ∷ sides) x has = leaving_sides ray (n + 1) sides x has
leaving_sides ray n (Some plane ∷ sides) x has =
    left_here n (crossing_of plane ray) (leaving_from ray (n + 1) sides) (side_places ray sides) x (λ more. leaving_sides ray (n + 1) sides x more) has

chord_roots : (a k : ℤ) (plus : Bool) (x : Pos) → Has (places_of (chord_end (chord_of a k) plus)) x → Has (root_places a k) x
chord_roots a (pos zero) plus x has = absurd has
chord_roots a (pos (suc k)) true x has = elim has [ inl e ↦ inr (inl e) | inr none ↦ absurd none ]
chord_roots a (pos (suc k)) false x has = elim has [ inl e ↦ inl e | inr none ↦ absurd none ]
chord_roots a (negsuc k) plus x has = absurd has

-- those of a round side
along_none : (k : ℤ) (plus : Bool) (x : Pos) → Has (places_of (round_end (held_or_missed k) plus)) x → ⊥
along_none (pos zero) plus x has = has
along_none (pos (suc k)) plus x has = has
along_none (negsuc k) plus x has = has

across_roots : (a k : ℤ) (plus : Bool) (x : Pos) → Has (places_of (round_end (through_or_missed (chord_of a k)) plus)) x → Has (root_places a k) x
across_roots a (pos zero) plus x has = absurd has
across_roots a (pos (suc k)) true x has = elim has [ inl e ↦ inr (inl e) | inr none ↦ absurd none ]
across_roots a (pos (suc k)) false x has = elim has [ inl e ↦ inl e | inr none ↦ absurd none ]
across_roots a (negsuc k) plus x has = absurd has

round_roots : (a k along : ℤ) (plus : Bool) (x : Pos) (b : Bool) → Has (places_of (round_end (cond b (held_or_missed along) (through_or_missed (chord_of a k))) plus)) x → Has (cond b [] (root_places a k)) x
round_roots a k along plus x true has = along_none along plus x has
round_roots a k along plus x false has = across_roots a k plus x has

round_among : (side : RoundSide) (ray : Ray) (plus : Bool) (x : Pos) → Has (places_of (round_end (round_crossing side ray) plus)) x → Has (round_places side ray) x
round_among side ray plus x has = round_roots (a_on side ray) (k_on side ray) (squared side.radius -ℤ length_squared (apart_on side ray.origin)) plus x (runs_along side ray) has

has_before : (xs ys : List Pos) (x : Pos) → Has xs x → Has (xs ++ ys) x
has_before [] ys x has = absurd has
has_before (y ∷ xs) ys x has = elim has [ inl e ↦ inl e | inr more ↦ inr (has_before xs ys x more) ]

has_after : (xs ys : List Pos) (x : Pos) → Has ys x → Has (xs ++ ys) x
has_after [] ys x has = has
has_after (y ∷ xs) ys x has = inr (has_after xs ys x has)

entering_among : (surface : Surface) (ray : Ray) (x : Pos) → Has (places_of (entering surface ray)) x → Has (surface_places surface ray) x
entering_among (Planes sides) ray x has = entering_sides ray 1 sides x has
entering_among (HalfSpace plane) ray x has = entering_sides ray 1 (Some plane ∷ []) x has
entering_among (Ball c r) ray x has = chord_roots (nearest_on c ray) (half_chord_squared c r ray) false x has
entering_among (Cylinder faces) ray x has = elim (has_parts (entering_from ray 1 (caps_of faces)) (round_end (crossed_round faces ray) false) x has) [
  | inl cap ↦ has_before (side_places ray (caps_of faces)) (round_places faces.side ray) x (entering_sides ray 1 (caps_of faces) x cap)
  | inr round ↦ has_after (side_places ray (caps_of faces)) (round_places faces.side ray) x (round_among faces.side ray false x round)
]

leaving_among : (surface : Surface) (ray : Ray) (x : Pos) → Has (places_of (leaving surface ray)) x → Has (surface_places surface ray) x
leaving_among (Planes sides) ray x has = leaving_sides ray 1 sides x has
leaving_among (HalfSpace plane) ray x has = leaving_sides ray 1 (Some plane ∷ []) x has
leaving_among (Ball c r) ray x has = chord_roots (nearest_on c ray) (half_chord_squared c r ray) true x has
leaving_among (Cylinder faces) ray x has = elim (has_parts (leaving_from ray 1 (caps_of faces)) (round_end (crossed_round faces ray) true) x has) [
  | inl cap ↦ has_before (side_places ray (caps_of faces)) (round_places faces.side ray) x (leaving_sides ray 1 (caps_of faces) x cap)
  | inr round ↦ has_after (side_places ray (caps_of faces)) (round_places faces.side ray) x (round_among faces.side ray true x round)
]

start_among : (surface : Surface) (ray : Ray) (x : Pos) → Has (ray_start ∷ places_of (entering surface ray)) x → Has (hit_places surface ray) x
start_among surface ray x has = elim has [ inl e ↦ inl e | inr more ↦ inr (inr (entering_among surface ray x more)) ]

end_among : (surface : Surface) (ray : Ray) (x : Pos) → Has (ray_end ∷ places_of (leaving surface ray)) x → Has (hit_places surface ray) x
end_among surface ray x has = elim has [ inl e ↦ inr (inl e) | inr more ↦ inr (inr (leaving_among surface ray x more)) ]

-- a place that neither precedes another one nor is at its place lies behind it
pub behind : (x f : Pos) → IsPlace x → IsPlace f → ¬ (Precedes f x) → ¬ (SamePlace f x) → Precedes x f
behind x f place place' not_before not_same = elim (outcome x f place place') [
  | inl before ↦ before
  | inr rest ↦ elim rest [ inl same ↦ absurd (not_same (same_symm x f same)) | inr after ↦ absurd (not_before after) ]
]

-- so what is inside and no hit lies strictly between the ends
record IsStrict (es ls : List Crossed) (f : Pos) : Type 0 where
  after : Precedes (start_of es) f
  before : Precedes f (end_of ls)

strict : (surface : Surface) (ray : Ray) → is_missed surface ray ≡ false → (p q : ℤ) → IsOnRay p q → ¬ (IsHitPlace surface ray (Frac p q)) → IsInside surface ray p q
    → AreEnds (entering surface ray) (leaving surface ray) (start_of (entering surface ray)) (end_of (leaving surface ray)) → IsStrict (entering surface ray) (leaving surface ray) (Frac p q)
strict surface ray e p q on no_hit inside ends =
    let es : List Crossed = entering surface ray in
    let ls : List Crossed = leaving surface ray in
    let cut = surface_cut surface ray e in
    let within = (on_ray_within p q on.positive).0 on in
    record {
      after = behind (start_of es) (Frac p q) ends.start_place on.positive
          (has_none_after (ray_start ∷ places_of es) (start_of es) (Frac p q) ends.start_among (within.0, cut.after p q on.positive inside))
          (λ same. no_hit (at_one (hit_places surface ray) (Frac p q) (start_of es) (start_among surface ray (start_of es) ends.start_among) same));
      before = behind (Frac p q) (end_of ls) on.positive ends.end_place
          (has_none_before (ray_end ∷ places_of ls) (end_of ls) (Frac p q) ends.end_among (within.1, cut.before p q on.positive inside))
          (λ same. no_hit (at_one (hit_places surface ray) (Frac p q) (end_of ls) (end_among surface ray (end_of ls) ends.end_among) (same_symm _ _ same)));
    }

abbrev found_seg : List Crossed → List Crossed → Seg
found_seg es ls = record { start = spelled (start_of es); start_face = face_at (start_of es) es; end = spelled (end_of ls); end_face = face_at (end_of ls) ls }

within_ends : (es ls : List Crossed) (f : Pos) → AreEnds es ls (start_of es) (end_of ls) → IsPlace f → IsStrict es ls f → LiesBetweenEnds (segment_between es ls) f
within_ends es ls f ends place h =
    let order : place_cmp (start_of es) (end_of ls) ≡ Less =
    (places_are_compared (start_of es) (end_of ls) ends.start_place ends.end_place).less.1 (transitive (start_of es) f (end_of ls) place ends.end_place h.after h.before) in
    subst (λ (r : Ordering). LiesBetweenEnds (cond (is_lt r) (Some (found_seg es ls)) None) f) (sym order) (
      is_kept_by_same_place.before (spelled (start_of es)) (start_of es) f (is_one_spelling.place (start_of es) ends.start_place) h.after,
      is_kept_by_same_place.after f (end_of ls) (spelled (end_of ls)) h.before (same_symm _ _ (is_one_spelling.place (end_of ls) ends.end_place)),
    )

-- a ball or a round side that has no chord is met at one place at most
at_touch : (a p q : ℤ) → pos 0 <ℤ q → IsNear a (pos 0) p q → SamePlace (Frac p q) (Surd a false 0)
at_touch a p q some near =
    let whole : p ≡ a *ℤ q = near_none a (pos 0) p q (omega (arith, ints)) near in
    record {
      not_before = near_not_before a p q 0 some near;
      not_after = not_before_fraction (Surd a false 0) p q tt some (omega (arith, ints, whole), none (squared q) ((a *ℤ q) -ℤ p) (omega (arith, ints, whole)));
    }
  where
    none : (s m : ℤ) → m ≡ pos 0 → (pos 0 *ℤ s) ≤ℤ (m *ℤ m)
    none s m e = omega (arith, ints, square_at_least m)

pub not_near : (a : ℤ) (k : ℕ) (p q : ℤ) → pos 0 <ℤ q → ¬ (IsNear a (negsuc k) p q)
not_near a k p q some = λ near.
    let square : (pos 0 *ℤ q) <ℤ (q *ℤ q) = mul_below (pos 0) q q some some in
    let low : (negsuc k *ℤ (q *ℤ q)) <ℤ (pos 0 *ℤ (q *ℤ q)) = mul_below (negsuc k) (pos 0) (q *ℤ q) (omega (arith, ints, square)) (omega (arith, ints)) in
    omega (arith, ints, near, low, square_at_least (p -ℤ (a *ℤ q)))

touched : (a k p q : ℤ) → pos 0 <ℤ q → is_no_chord (chord_of a k) ≡ true → IsNear a k p q → IsAtOneOf (root_places a k) (Frac p q)
touched a (pos zero) p q some e near = inl (at_touch a p q some near)
touched a (pos (suc k)) p q some e near = absurd (let f : false ≡ true = e in cc)
touched a (negsuc k) p q some e near = absurd (not_near a k p q some near)

-- what a round side that is missed holds is where it is touched
no_chord_missed : (a k : ℤ) → is_round_miss (through_or_missed (chord_of a k)) ≡ true → is_no_chord (chord_of a k) ≡ true
no_chord_missed a (pos zero) e = refl
no_chord_missed a (pos (suc k)) e = e
no_chord_missed a (negsuc k) e = refl

not_held : (k r l : ℤ) → k ≡ r -ℤ l → is_round_miss (held_or_missed k) ≡ true → ¬ (l <ℤ r)
not_held (pos zero) r l is e = λ lt. omega (arith, ints, is, lt)
not_held (pos (suc k)) r l is e = absurd (let f : false ≡ true = e in cc)
not_held (negsuc k) r l is e = λ lt. omega (arith, ints, is, lt)

touched_by : (side : RoundSide) (ray : Ray) (p q : ℤ) → pos 0 <ℤ q → SideHolds side ray p q → (b : Bool) → runs_along side ray ≡ b
    → is_round_miss (cond b (held_or_missed (squared side.radius -ℤ length_squared (apart_on side ray.origin))) (through_or_missed (chord_of (a_on side ray) (k_on side ray)))) ≡ true
    → IsAtOneOf (cond b [] (root_places (a_on side ray) (k_on side ray))) (Frac p q)
touched_by side ray p q some held true e missed =
    absurd (not_held (squared side.radius -ℤ length_squared (apart_on side ray.origin)) (squared side.radius) (length_squared (apart_on side ray.origin)) refl missed ((side_along side ray p q e).0 held))
touched_by side ray p q some held false e missed =
    touched (a_on side ray) (k_on side ray) p q some (no_chord_missed (a_on side ray) (k_on side ray) missed) ((side_near side ray p q e).0 held)

touched_round : (side : RoundSide) (ray : Ray) (p q : ℤ) → pos 0 <ℤ q → SideHolds side ray p q → is_round_miss (round_crossing side ray) ≡ true → IsAtOneOf (round_places side ray) (Frac p q)
touched_round side ray p q some held missed = touched_by side ray p q some held (runs_along side ray) refl missed

at_after : (xs ys : List Pos) (x : Pos) → IsAtOneOf ys x → IsAtOneOf (xs ++ ys) x
at_after [] ys x at = at
at_after (y ∷ xs) ys x at = inr (at_after xs ys x at)

missed_hit : (surface : Surface) (ray : Ray) → is_missed surface ray ≡ true → (p q : ℤ) → pos 0 <ℤ q → IsInside surface ray p q → IsHitPlace surface ray (Frac p q)
missed_hit (Planes sides) ray e p q some inside = absurd (missed_all ray sides e p q some inside)
missed_hit (HalfSpace plane) ray e p q some inside = absurd (missed_all ray (Some plane ∷ []) e p q some (inside, tt))
missed_hit (Ball c r) ray e p q some inside = inr (inr (touched (nearest_on c ray) (half_chord_squared c r ray) p q some e ((held_near c r ray p q).0 inside)))
missed_hit (Cylinder faces) ray e p q some inside =
    missed_or (is_missed_by ray (caps_of faces)) (is_round_miss (crossed_round faces ray)) (IsHitPlace (Cylinder faces) ray (Frac p q)) e
    (λ missed. absurd (missed_all ray (caps_of faces) missed p q some (inside.0, (inside.1, tt))))
    (λ missed. inr (inr (at_after (side_places ray (caps_of faces)) (round_places faces.side ray) (Frac p q) (touched_round faces.side ray p q some inside.2 missed))))

-- what is inside and no hit lies within the segment
into_by : (surface : Surface) (ray : Ray) (p q : ℤ) → IsOnRay p q → ¬ (IsHitPlace surface ray (Frac p q)) → IsInside surface ray p q → (missed : Bool) → is_missed surface ray ≡ missed
    → LiesBetweenEnds (cond missed None (segment_between (entering surface ray) (leaving surface ray))) (Frac p q)
into_by surface ray p q on no_hit inside true e = absurd (no_hit (missed_hit surface ray e p q on.positive inside))
into_by surface ray p q on no_hit inside false e =
    let ends = ends_of (entering surface ray) (leaving surface ray) (enter_places surface ray) (leave_places surface ray) in
    within_ends (entering surface ray) (leaving surface ray) (Frac p q) ends on.positive (strict surface ray e p q on no_hit inside ends)

-- and what lies within it is inside
out_of : (surface : Surface) (ray : Ray) (o : Option Seg) (p q : ℤ) → TellsInside surface ray o → pos 0 <ℤ q → LiesBetweenEnds o (Frac p q) → IsInside surface ray p q
out_of surface ray None p q tells some within = absurd within
out_of surface ray (Some seg) p q tells some within = tells.between p q some within.0 within.1

-- the ends of the segment are hits
spelled_hit : (surface : Surface) (ray : Ray) (x : Pos) → IsPlace x → Has (hit_places surface ray) x → IsHitPlace surface ray (spelled x)
spelled_hit surface ray x place has = at_one (hit_places surface ray) (spelled x) x has (is_one_spelling.place x place)

ends_hit : (surface : Surface) (ray : Ray) (order : Bool) → AreEnds (entering surface ray) (leaving surface ray) (start_of (entering surface ray)) (end_of (leaving surface ray))
    → IfSome (cond order (Some (found_seg (entering surface ray) (leaving surface ray))) None) (EndsAreHitPlaces surface ray)
ends_hit surface ray true ends = record {
  start = spelled_hit surface ray (start_of (entering surface ray)) ends.start_place (start_among surface ray (start_of (entering surface ray)) ends.start_among);
  end = spelled_hit surface ray (end_of (leaving surface ray)) ends.end_place (end_among surface ray (end_of (leaving surface ray)) ends.end_among);
}
ends_hit surface ray false ends = tt

ends_by : (surface : Surface) (ray : Ray) (missed : Bool) → IfSome (cond missed None (segment_between (entering surface ray) (leaving surface ray))) (EndsAreHitPlaces surface ray)
ends_by surface ray true = tt
ends_by surface ray false =
    ends_hit surface ray (is_lt (place_cmp (start_of (entering surface ray)) (end_of (leaving surface ray))))
    (ends_of (entering surface ray) (leaving surface ray) (enter_places surface ray) (leave_places surface ray))

-- there are few places
few_here : (c : Crossing) → length (crossing_places c) ≤ 1
few_here (Enters p q) = omega arith
few_here (Leaves p q) = omega arith
few_here Holds = omega arith
few_here Misses = omega arith

few_sides : (ray : Ray) (sides : List (Option Plane)) → length (side_places ray sides) ≤ length sides
few_sides ray [] = omega arith
few_sides ray (side ∷ sides) =
    omega (arith, length-append (crossing_places (side_crossing side ray)) (side_places ray sides), few_here (side_crossing side ray), few_sides ray sides)

few_roots : (a k : ℤ) → length (root_places a k) ≤ 2
few_roots a (pos k) = omega arith
few_roots a (negsuc k) = omega arith

few_round : (a k : ℤ) (b : Bool) → length (cond b [] (root_places a k)) ≤ 2
few_round a k true = omega arith
few_round a k false = few_roots a k

few_faces : (faces : RccFaces) (ray : Ray) → length (surface_places (Cylinder faces) ray) ≤ 4
few_faces faces ray =
    let caps : length (side_places ray (caps_of faces)) ≤ 2 = few_sides ray (caps_of faces) in
    let round : length (round_places faces.side ray) ≤ 2 = few_round (a_on faces.side ray) (k_on faces.side ray) (runs_along faces.side ray) in
    omega (arith, length-append (side_places ray (caps_of faces)) (round_places faces.side ray), caps, round)

abbrev twelve : Placement → List V3 → List (Option Plane)
twelve by vertices = placed_sides by (planes_of vertices)

few_of : (solid : Solid) (by : Placement) (ray : Ray) → length (hit_places (surface_of solid by) ray) ≤ 14
few_of (solids.Arb8 solid) by ray = omega (arith, few_sides ray (twelve by solid.vertices))
few_of (solids.Sphere sphere) by ray = omega (arith, few_roots (nearest_on (placed by sphere.centre) ray) (half_chord_squared (placed by sphere.centre) sphere.radius ray))
few_of (solids.Half half) by ray = omega (arith, few_sides ray (Some (placed_plane by (plane_of_half half)) ∷ []))
few_of (solids.Rcc rcc) by ray = omega (arith, few_faces (placed_faces by (faces_of rcc)) ray)

few_made : (surface : Surface) (bounds : Box3) (ray : Ray) → IsMade surface bounds → length (hit_places surface ray) ≤ 14
few_made surface bounds ray made = subst (λ (s : Surface). length (hit_places s ray) ≤ 14) (sym made.surface_is) (few_of made.solid made.by ray)

pub few_hits : (surface : Surface) (bounds : Box3) (ray : Ray) → ∥ IsMade surface bounds ∥₁ → length (hit_places surface ray) ≤ 14
few_hits surface bounds ray made = ∥∥₁_elim made (le_prop) (λ (m : IsMade surface bounds). few_made surface bounds ray m)

some_for : {X : Type 0} (P : X → Type 0) (o : Option X) → IfSome o P → ForSome o P
some_for P None h = λ x is. absurd (let e : None ≡ Some x = is in cc)
some_for P (Some y) h = λ x is. let same : y ≡ x = cc in subst P same h

pub ends_are_hits : (surface : Surface) (ray : Ray) → ForSome (segment_of surface ray) (EndsAreHitPlaces surface ray)
ends_are_hits surface ray = some_for (EndsAreHitPlaces surface ray) (segment_of surface ray) (ends_by surface ray (is_missed surface ray))

pub inside_exactly : (surface : Surface) (ray : Ray) (p q : ℤ) → IsOnRay p q → ¬ (IsHitPlace surface ray (Frac p q)) → IsInside surface ray p q ↔ LiesBetweenEnds (segment_of surface ray) (Frac p q)
inside_exactly surface ray p q on no_hit = (
  λ inside. into_by surface ray p q on no_hit inside (is_missed surface ray) refl,
  λ within. out_of surface ray (segment_of surface ray) p q (segment_tells surface ray) on.positive within,
)

pub tells_by_hits : (surface : Surface) (ray : Ray) → length (hit_places surface ray) ≤ 14 → ForSome (segment_of surface ray) IsSegInRange → TellsByHitPlaces surface ray (segment_of surface ray)
tells_by_hits surface ray few range = record {
  few = few;
  sound = λ seg is. segment_sound surface ray seg is (range seg is);
  ends = ends_are_hits surface ray;
  exact = inside_exactly surface ray;
}
