-- The segment of a cylinder: its caps cut the ray as other planes do, and then its round side as a ball does.
use Rattle.std.proofs.Common.{◌≡◌, ◌≢◌, ◌∙◌, ◌⊎◌, ℕ, ◌-◌, ℤ, pos, ◌<ℤ◌, Bool, true, false, cond, ◌||◌, List, [], ◌∷◌, ◌++◌, Option, Some, None, MatchOption, refl, ap, sym, subst, inl, inr, arith}
use Rattle.std.specs.Prelude.{slice_index_or}
use Rattle.std.specs.List.{find}
use Rattle.std.specs.Option.{option_or}
use Rattle.std.proofs.lemmas.List.Folds.{find-append}
use Rattle.lattice_core.specs.declared.ray.Ray.{Ray}
use Rattle.plane_geom.specs.declared.plane.Plane.{Plane}
use Rattle.plane_geom.specs.Planes.{slope_on}
use Rattle.prim_rcc.specs.declared.rcc.RccFaces.{RccFaces}
use Rattle.prim_rcc.specs.declared.side.RoundSide.{RoundSide}
use Rattle.prim_rcc.specs.declared.side.RoundCrossing.{RoundCrossing}
use Rattle.prim_rcc.specs.declared.side.RoundCrossing.TheVariants.{Through, Holds, Misses}
use Rattle.prim_rcc.specs.Sides.{SideHolds, HoldsOnceAtMost, IsRoundCrossing, IsSmallRound, round_crossing}
use Rattle.prim_rcc.proofs.Rounds.{crossing_tells}
use Rattle.surd_order.specs.declared.position.Pos.{Pos}
use Rattle.surd_order.specs.declared.position.Pos.TheVariants.{Frac}
use Rattle.surd_order.specs.declared.position.Seg.{Seg}
use Rattle.surd_order.specs.Order.{IsPlace}
use Rattle.surd_order.specs.PlaceOrder.{place_cmp}
use Rattle.surd_order.proofs.FractionOrder.{fractions_same}
use Rattle.solid_set.specs.declared.crossed.Crossed.{Crossed}
use Rattle.solid_set.specs.declared.span.Span.{Span}
use Rattle.solid_set.specs.declared.surface.Surface.TheVariants.{Cylinder}
use Rattle.solid_set.specs.Crossings.{entering_from, leaving_from, is_missed_by}
use Rattle.solid_set.specs.Laws.{HoldsAtMostOne}
use Rattle.solid_set.specs.Levels.{IsEndFace, IsFaceOn}
use Rattle.solid_set.specs.Segments.{ray_start, ray_end, places_of, face_or_none, segment_between, segment_of, entering, leaving, is_missed, caps_of, round_end, is_round_miss}
use Rattle.solid_set.specs.Spans.{IsSpanInRange, IsRoundInRange, run_span, chord_crossed, finished_span}
use Rattle.solid_set.proofs.Ranking.{turned_cmp, forwards, backwards}
use Rattle.solid_set.proofs.Foremost.{Has, IsBest, best_next, foremost_is}
use Rattle.solid_set.proofs.SpanLaws.{IsSpanOf, ArePlaces, append_none, entering_places, leaving_places, finished_parts}
use Rattle.solid_set.proofs.InsideLaws.{NoneAfter, NoneBefore, IsCutBy, none_of_or, missed_or, planes_held, missed_all}
use Rattle.solid_set.proofs.BallLaws.{near_not_before, near_not_after, near_from}
use Rattle.solid_set.proofs.Ranges.{small_whole, small_square}
use Rattle.solid_set.proofs.Faces.{IsCutOrNone, entering_cut, leaving_cut, both_cut, none_cut, steep_at}

-- lists one behind the other
pub has_parts : (es rs : List Crossed) (x : Pos) → Has (places_of (es ++ rs)) x → Has (places_of es) x ⊎ Has (places_of rs) x
has_parts [] rs x has = inr has
has_parts (e ∷ es) rs x has = elim has [ inl here ↦ inl (inl here) | inr more ↦ elim (has_parts es rs x more) [ inl a ↦ inl (inr a) | inr b ↦ inr b ] ]

after_both : (es rs : List Crossed) (f : Pos) → NoneAfter (places_of es) f → NoneAfter (places_of rs) f → NoneAfter (places_of (es ++ rs)) f
after_both [] rs f h g = g
after_both (e ∷ es) rs f h g = (h.0, after_both es rs f h.1 g)

after_each : (es rs : List Crossed) (f : Pos) → NoneAfter (places_of (es ++ rs)) f → NoneAfter (places_of es) f × NoneAfter (places_of rs) f
after_each [] rs f h = (tt, h)
after_each (e ∷ es) rs f h = let more = after_each es rs f h.1 in ((h.0, more.0), more.1)

before_both : (es rs : List Crossed) (f : Pos) → NoneBefore (places_of es) f → NoneBefore (places_of rs) f → NoneBefore (places_of (es ++ rs)) f
before_both [] rs f h g = g
before_both (e ∷ es) rs f h g = (h.0, before_both es rs f h.1 g)

before_each : (es rs : List Crossed) (f : Pos) → NoneBefore (places_of (es ++ rs)) f → NoneBefore (places_of es) f × NoneBefore (places_of rs) f
before_each [] rs f h = (tt, h)
before_each (e ∷ es) rs f h = let more = before_each es rs f h.1 in ((h.0, more.0), more.1)

-- what the round side holds is what its crossings cut out
record IsHeldRound (side : RoundSide) (ray : Ray) (c : RoundCrossing) (p q : ℤ) : Type 0 where
  after : SideHolds side ray p q → NoneAfter (places_of (round_end c false)) (Frac p q)
  before : SideHolds side ray p q → NoneBefore (places_of (round_end c true)) (Frac p q)
  inside : NoneAfter (places_of (round_end c false)) (Frac p q) → NoneBefore (places_of (round_end c true)) (Frac p q) → SideHolds side ray p q

round_held : (side : RoundSide) (ray : Ray) (c : RoundCrossing) → IsRoundCrossing side ray c → is_round_miss c ≡ false → (p q : ℤ) → pos 0 <ℤ q → IsHeldRound side ray c p q
round_held side ray (Through chord) h e p q some = record {
  after = λ held. (near_not_before chord.a p q chord.k some ((h p q some).0 held), tt);
  before = λ held. (near_not_after chord.a p q chord.k some ((h p q some).0 held), tt);
  inside = λ after before. (h p q some).1 (near_from chord.a p q chord.k some after.0 before.0);
}
round_held side ray Holds h e p q some = record { after = λ held. tt; before = λ held. tt; inside = λ after before. h p q some }
round_held side ray Misses h e p q some = absurd (let f : true ≡ false = e in cc)

abbrev pub crossed_round : RccFaces → Ray → RoundCrossing
crossed_round faces ray = round_crossing faces.side ray

pub cylinder_cut : (faces : RccFaces) (ray : Ray) → is_missed (Cylinder faces) ray ≡ false → IsCutBy (Cylinder faces) ray (entering (Cylinder faces) ray) (leaving (Cylinder faces) ray)
cylinder_cut faces ray e =
    let caps : List (Option Plane) = caps_of faces in
    let parts = none_of_or (is_missed_by ray (caps_of faces)) (is_round_miss (crossed_round faces ray)) e in
    let tells = crossing_tells faces.side ray in
    record {
      after = λ p q some h.
          after_both (entering_from ray 1 caps) (round_end (crossed_round faces ray) false) (Frac p q)
          ((planes_held ray 1 caps p q some parts.0).after (h.0, (h.1, tt)))
          ((round_held faces.side ray (crossed_round faces ray) tells parts.1 p q some).after h.2);
      before = λ p q some h.
          before_both (leaving_from ray 1 caps) (round_end (crossed_round faces ray) true) (Frac p q)
          ((planes_held ray 1 caps p q some parts.0).before (h.0, (h.1, tt)))
          ((round_held faces.side ray (crossed_round faces ray) tells parts.1 p q some).before h.2);
      inside = λ p q some after before.
          let a = after_each (entering_from ray 1 caps) (round_end (crossed_round faces ray) false) (Frac p q) after in
          let b = before_each (leaving_from ray 1 caps) (round_end (crossed_round faces ray) true) (Frac p q) before in
          let both = (planes_held ray 1 caps p q some parts.0).inside a.0 b.0 in
          (both.0, both.1.0, (round_held faces.side ray (crossed_round faces ray) tells parts.1 p q some).inside a.1 b.1);
    }

-- a cylinder that a ray misses holds one fraction of it at most
miss_once : (side : RoundSide) (ray : Ray) (c : RoundCrossing) → IsRoundCrossing side ray c → is_round_miss c ≡ true → HoldsOnceAtMost side ray
miss_once side ray (Through chord) h e = absurd (let f : false ≡ true = e in cc)
miss_once side ray Holds h e = absurd (let f : false ≡ true = e in cc)
miss_once side ray Misses h e = h

pub cylinder_one : (faces : RccFaces) (ray : Ray) → is_missed (Cylinder faces) ray ≡ true → HoldsAtMostOne (Cylinder faces) ray
cylinder_one faces ray e =
    missed_or (is_missed_by ray (caps_of faces)) (is_round_miss (crossed_round faces ray)) (HoldsAtMostOne (Cylinder faces) ray) e
    (λ missed. λ p q p' q' on on' inside inside'. absurd (missed_all ray (caps_of faces) missed p q on.positive (inside.0, (inside.1, tt))))
    (λ missed. λ p q p' q' on on' inside inside'.
    fractions_same p q p' q' on.positive on'.positive (miss_once faces.side ray (crossed_round faces ray) (crossing_tells faces.side ray) missed p q p' q' on.positive on'.positive inside.2 inside'.2))

-- crossings are places
round_place : (c : RoundCrossing) (plus : Bool) (x : Pos) → Has (places_of (round_end c plus)) x → IsPlace x
round_place (Through chord) plus x has = elim has [ inl e ↦ subst IsPlace e tt | inr none ↦ absurd none ]
round_place Holds plus x has = absurd has
round_place Misses plus x has = absurd has

pub enter_cylinder : (faces : RccFaces) (ray : Ray) → ArePlaces (entering (Cylinder faces) ray)
enter_cylinder faces ray = record {
  each = λ x has. elim (has_parts (entering_from ray 1 (caps_of faces)) (round_end (crossed_round faces ray) false) x has) [
    | inl cap ↦ entering_places ray 1 (caps_of faces) x cap
    | inr round ↦ round_place (crossed_round faces ray) false x round
  ];
}

pub leave_cylinder : (faces : RccFaces) (ray : Ray) → ArePlaces (leaving (Cylinder faces) ray)
leave_cylinder faces ray = record {
  each = λ x has. elim (has_parts (leaving_from ray 1 (caps_of faces)) (round_end (crossed_round faces ray) true) x has) [
    | inl cap ↦ leaving_places ray 1 (caps_of faces) x cap
    | inr round ↦ round_place (crossed_round faces ray) true x round
  ];
}

-- the running span, cut by the round side
pub record IsRunSpan (es ls : List Crossed) (c : RoundCrossing) (next : Span) : Type 0 where
  pub missed : is_round_miss c ≡ false
  pub start : IsBest place_cmp ray_start (es ++ round_end c false) next.start
  pub end : IsBest turned_cmp ray_end (ls ++ round_end c true) next.end

pub run_step : (es ls : List Crossed) (span : Span) → IsBest place_cmp ray_start es span.start → IsBest turned_cmp ray_end ls span.end → (c : RoundCrossing)
    → MatchOption (run_span span c) (is_round_miss c ≡ true) (λ next. IsRunSpan es ls c next)
run_step es ls span start end (Through chord) = record {
  missed = refl;
  start = best_next place_cmp forwards ray_start es span.start (chord_crossed 3 chord false) start (omega arith);
  end = best_next turned_cmp backwards ray_end ls span.end (chord_crossed 3 chord true) end (omega arith);
}
run_step es ls span start end Holds = record {
  missed = refl;
  start = subst (λ (cs : List Crossed). IsBest place_cmp ray_start cs span.start) (sym (append_none es)) start;
  end = subst (λ (cs : List Crossed). IsBest turned_cmp ray_end cs span.end) (sym (append_none ls)) end;
}
run_step es ls span start end Misses = refl

pub run_none : (P : Type 0) (Q : Span → Type 0) (o : Option Span) → o ≡ None → MatchOption o P Q → P
run_none P Q o e h = subst (λ (p : Option Span). MatchOption p P Q) e h

pub run_some : (P : Type 0) (Q : Span → Type 0) (o : Option Span) (x : Span) → o ≡ Some x → MatchOption o P Q → Q x
run_some P Q o x e h = subst (λ (p : Option Span). MatchOption p P Q) e h

abbrev by_miss : RccFaces → Ray → Bool → Option Seg
by_miss faces ray b = cond b None (segment_between (entering (Cylinder faces) ray) (leaving (Cylinder faces) ray))

or_right : (a : Bool) → (a || true) ≡ true
or_right true = refl
or_right false = refl

pub caps_missed : (faces : RccFaces) (ray : Ray) → is_missed_by ray (caps_of faces) ≡ true → segment_of (Cylinder faces) ray ≡ None
caps_missed faces ray e = ap (by_miss faces ray) (ap (λ (b : Bool). b || is_round_miss (crossed_round faces ray)) e)

pub round_missed : (faces : RccFaces) (ray : Ray) → is_round_miss (crossed_round faces ray) ≡ true → segment_of (Cylinder faces) ray ≡ None
round_missed faces ray e = ap (by_miss faces ray) (ap (λ (b : Bool). is_missed_by ray (caps_of faces) || b) e ∙ or_right (is_missed_by ray (caps_of faces)))

pub cylinder_finished : (faces : RccFaces) (ray : Ray) (span next : Span) → IsSpanInRange next → IsSpanOf ray (caps_of faces) span
    → IsRunSpan (entering_from ray 1 (caps_of faces)) (leaving_from ray 1 (caps_of faces)) (crossed_round faces ray) next → finished_span next ≡ segment_of (Cylinder faces) ray
cylinder_finished faces ray span next range caps run =
    let es : List Crossed = entering (Cylinder faces) ray in
    let ls : List Crossed = leaving (Cylinder faces) ray in
    finished_parts es ls next (enter_cylinder faces ray) (leave_cylinder faces ray) range run.start run.end
    (foremost_is place_cmp ray_start (places_of es) next.start.place run.start.place)
    (foremost_is turned_cmp ray_end (places_of ls) next.end.place run.end.place)
    ∙ sym (ap (by_miss faces ray) (ap (λ (b : Bool). b || is_round_miss (crossed_round faces ray)) caps.missed ∙ run.missed))

pub round_range : (radius : ℤ) (c : RoundCrossing) → IsSmallRound radius c → IsRoundInRange c
round_range radius (Through chord) h = record { whole = small_whole chord.a h.whole; square = small_square chord.k h.root }
round_range radius Holds h = tt
round_range radius Misses h = tt

-- a face at an end is a cap that the ray crosses, or the round side
abbrev IsEndOf : Ray → List (Option Plane) → ℕ → Type 0
IsEndOf ray caps face = IsCutOrNone ray 1 caps face ⊎ (face ≡ 3)

round_face : (ray : Ray) (caps : List (Option Plane)) (test : Crossed → Bool) (c : RoundCrossing) (plus : Bool) → IsEndOf ray caps (face_or_none (find test (round_end c plus)))
round_face ray caps test (Through chord) plus = by_test (test (chord_crossed 3 chord plus))
  where
    by_test : (b : Bool) → IsEndOf ray caps (face_or_none (cond b (Some (chord_crossed 3 chord plus)) None))
    by_test true = inr refl
    by_test false = inl (inl refl)
round_face ray caps test Holds plus = inl (inl refl)
round_face ray caps test Misses plus = inl (inl refl)

or_face : (P : ℕ → Type 0) (a b : Option Crossed) → P (face_or_none a) → P (face_or_none b) → P (face_or_none (option_or a b))
or_face P None b h g = g
or_face P (Some c) b h g = h

joined_face : (ray : Ray) (caps : List (Option Plane)) (test : Crossed → Bool) (es rs : List Crossed) → IsCutOrNone ray 1 caps (face_or_none (find test es)) → IsEndOf ray caps (face_or_none (find test rs))
    → IsEndOf ray caps (face_or_none (find test (es ++ rs)))
joined_face ray caps test es rs h g =
    subst (λ (o : Option Crossed). IsEndOf ray caps (face_or_none o)) (sym (find-append test es rs)) (or_face (IsEndOf ray caps) (find test es) (find test rs) (inl h) g)

cylinder_end : (faces : RccFaces) (ray : Ray) (face : ℕ) → IsEndFace face (segment_of (Cylinder faces) ray) → IsEndOf ray (caps_of faces) face
cylinder_end faces ray face at =
    let caps : List (Option Plane) = caps_of faces in
    none_cut (is_missed (Cylinder faces) ray) (IsEndOf ray caps) _ face
    (λ at'. both_cut _ (IsEndOf ray caps) _ face
    (joined_face ray caps _ (entering_from ray 1 caps) (round_end (crossed_round faces ray) false) (entering_cut ray _ 1 caps) (round_face ray caps _ (crossed_round faces ray) false))
    (joined_face ray caps _ (leaving_from ray 1 caps) (round_end (crossed_round faces ray) true) (leaving_cut ray _ 1 caps) (round_face ray caps _ (crossed_round faces ray) true)) at') at

pub steep_cap : (faces : RccFaces) (ray : Ray) (face : ℕ) (plane : Plane) → face ≢ 0 → face ≢ 3 → IsFaceOn (Cylinder faces) ray face → slice_index_or (caps_of faces) (face - 1) None ≡ Some plane → slope_on plane ray ≢ pos 0
steep_cap faces ray face plane some not_round on is =
    steep_at ray (caps_of faces) face plane some (elim on [
      | inl none ↦ inl none
      | inr at_end ↦ elim (cylinder_end faces ray face at_end) [ inl cut ↦ cut | inr round ↦ absurd (not_round round) ]
    ]) is
