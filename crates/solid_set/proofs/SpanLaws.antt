-- The running span against the whole lists of crossings.
use Rattle.std.proofs.Common.{◌≡◌, ◌∙◌, ℕ, ◌+◌, ◌-◌, ◌≤◌, Bool, true, false, cond, ◌||◌, List, [], ◌∷◌, ◌++◌, length, take, drop, ◌<◌, Option, Some, None, MatchOption, refl, ap, sym, subst, inl, inr, arith, append_assoc}
use Rattle.std.proofs.lemmas.Int.{ints}
use Rattle.std.proofs.lemmas.Cmp.{alike_right}
use Rattle.std.specs.Prelude.{slice_index_or}
use Rattle.std.proofs.lemmas.List.{take_more, take-append-drop}
use Rattle.std.proofs.lemmas.List.{length-take-le}
use Rattle.std.specs.List.{find}
use Rattle.std.specs.Ordering.{is_lt, is_eq}
use Rattle.std.specs.declared.cmp.Ordering.{Ordering}
use Rattle.std.specs.declared.cmp.Ordering.TheVariants.{Equal}
use Rattle.lattice_core.specs.declared.ray.Ray.{Ray}
use Rattle.plane_geom.specs.declared.plane.Plane.{Plane}
use Rattle.plane_geom.specs.declared.plane.Crossing.{Crossing}
use Rattle.plane_geom.specs.declared.plane.Crossing.TheVariants.{Enters, Leaves, Holds, Misses}
use Rattle.plane_geom.specs.Planes.{IsCrossing}
use Rattle.surd_order.specs.declared.position.Pos.{Pos}
use Rattle.surd_order.specs.declared.position.Pos.TheVariants.{Frac}
use Rattle.surd_order.specs.declared.position.Seg.{Seg}
use Rattle.surd_order.specs.Order.{IsPlace}
use Rattle.surd_order.specs.PlaceOrder.{place_cmp}
use Rattle.surd_order.proofs.PlaceOrderLaws.{place_cmp_total}
use Rattle.solid_set.specs.declared.crossed.Crossed.{Crossed}
use Rattle.solid_set.specs.declared.span.Span.{Span}
use Rattle.plane_geom.specs.Crossings.{crossing_of}
use Rattle.solid_set.specs.Crossings.{entered, left, is_miss, entering_from, leaving_from, is_missed_by}
use Rattle.solid_set.specs.Segments.{ray_start, ray_end, places_of, face_at, face_or_none, start_of, end_of, segment_between, segment_through}
use Rattle.solid_set.specs.Spans.{IsSpanInRange, crossed_span, cut_span, finished_span, whole_span}
use Rattle.surd_order.specs.Spelled.{spelled}
use Rattle.solid_set.proofs.Ranking.{IsRanking, turned_cmp, forwards, backwards}
use Rattle.solid_set.proofs.Foremost.{Has, IsForemost, IsBest, face_is, foremost_is, foremost_tie, best_next, best_first}
use Rattle.plane_geom.proofs.Unique.{crossing_is}
use Rattle.solid_set.proofs.Spellings.{spelled_tie, ranged_place}

pub append_none : (cs : List Crossed) → cs ++ [] ≡ cs
append_none [] = refl
append_none (c ∷ cs) = ap (λ (ds : List Crossed). c ∷ ds) (append_none cs)

-- what the planes so far and their span are to each other
pub record IsSpanOf (ray : Ray) (sides : List (Option Plane)) (span : Span) : Type 0 where
  pub missed : is_missed_by ray sides ≡ false
  pub start : IsBest place_cmp ray_start (entering_from ray 1 sides) span.start
  pub end : IsBest turned_cmp ray_end (leaving_from ray 1 sides) span.end

pub span_first : (ray : Ray) → IsSpanOf ray [] whole_span
span_first ray = record { missed = refl; start = best_first place_cmp forwards ray_start; end = best_first turned_cmp backwards ray_end }

entering_append : (ray : Ray) (n face : ℕ) (sides : List (Option Plane)) (side : Option Plane) → n ≡ face + length sides
    → entering_from ray face (sides ++ side ∷ []) ≡ entering_from ray face sides ++ entering_from ray n (side ∷ [])
entering_append ray n face [] side e = let same : face ≡ n = omega arith in ap (λ (m : ℕ). entering_from ray m (side ∷ [])) same
entering_append ray n face (None ∷ sides) side e = entering_append ray n (face + 1) sides side (omega arith)
entering_append ray n face (Some plane ∷ sides) side e =
    ap (λ (cs : List Crossed). entered face (crossing_of plane ray) ++ cs) (entering_append ray n (face + 1) sides side (omega arith))
    ∙ sym (append_assoc (entered face (crossing_of plane ray)) (entering_from ray (face + 1) sides) (entering_from ray n (side ∷ [])))

leaving_append : (ray : Ray) (n face : ℕ) (sides : List (Option Plane)) (side : Option Plane) → n ≡ face + length sides
    → leaving_from ray face (sides ++ side ∷ []) ≡ leaving_from ray face sides ++ leaving_from ray n (side ∷ [])
leaving_append ray n face [] side e = let same : face ≡ n = omega arith in ap (λ (m : ℕ). leaving_from ray m (side ∷ [])) same
leaving_append ray n face (None ∷ sides) side e = leaving_append ray n (face + 1) sides side (omega arith)
leaving_append ray n face (Some plane ∷ sides) side e =
    ap (λ (cs : List Crossed). left face (crossing_of plane ray) ++ cs) (leaving_append ray n (face + 1) sides side (omega arith))
    ∙ sym (append_assoc (left face (crossing_of plane ray)) (leaving_from ray (face + 1) sides) (leaving_from ray n (side ∷ [])))

or_assoc : (a b c : Bool) → (a || (b || c)) ≡ ((a || b) || c)
or_assoc true b c = refl
or_assoc false b c = refl

missed_append : (ray : Ray) (sides : List (Option Plane)) (side : Option Plane) → is_missed_by ray (sides ++ side ∷ []) ≡ (is_missed_by ray sides || is_missed_by ray (side ∷ []))
missed_append ray [] side = refl
missed_append ray (None ∷ sides) side = missed_append ray sides side
missed_append ray (Some plane ∷ sides) side =
    ap (λ (b : Bool). is_miss (crossing_of plane ray) || b) (missed_append ray sides side)
    ∙ or_assoc (is_miss (crossing_of plane ray)) (is_missed_by ray sides) (is_missed_by ray (side ∷ []))

-- one more crossing of a span
pub record IsCrossedSpan (es ls : List Crossed) (n : ℕ) (c : Crossing) (next : Span) : Type 0 where
  pub missed : is_miss c ≡ false
  pub start : IsBest place_cmp ray_start (es ++ (entered n c ++ [])) next.start
  pub end : IsBest turned_cmp ray_end (ls ++ (left n c ++ [])) next.end

crossed_step : (es ls : List Crossed) (span : Span) (n : ℕ) → 1 ≤ n → IsBest place_cmp ray_start es span.start → IsBest turned_cmp ray_end ls span.end → (c : Crossing)
    → MatchOption (crossed_span span n c) (is_miss c ≡ true) (λ next. IsCrossedSpan es ls n c next)
crossed_step es ls span n some start end (Enters p q) = record {
  missed = refl;
  start = best_next place_cmp forwards ray_start es span.start (record { face = n; place = Frac p q }) start some;
  end = subst (λ (cs : List Crossed). IsBest turned_cmp ray_end cs span.end) (sym (append_none ls)) end;
}
crossed_step es ls span n some start end (Leaves p q) = record {
  missed = refl;
  start = subst (λ (cs : List Crossed). IsBest place_cmp ray_start cs span.start) (sym (append_none es)) start;
  end = best_next turned_cmp backwards ray_end ls span.end (record { face = n; place = Frac p q }) end some;
}
crossed_step es ls span n some start end Holds = record {
  missed = refl;
  start = subst (λ (cs : List Crossed). IsBest place_cmp ray_start cs span.start) (sym (append_none es)) start;
  end = subst (λ (cs : List Crossed). IsBest turned_cmp ray_end cs span.end) (sym (append_none ls)) end;
}
crossed_step es ls span n some start end Misses = refl

or_false : (b : Bool) → (b || false) ≡ b
or_false true = refl
or_false false = refl

or_true : (b : Bool) → (b || true) ≡ true
or_true true = refl
or_true false = refl

joined_span : (ray : Ray) (sides : List (Option Plane)) (plane : Plane) (n : ℕ) (span : Span) → n ≡ 1 + length sides → IsSpanOf ray sides span → (o : Option Span)
    → MatchOption o (is_miss (crossing_of plane ray) ≡ true) (λ next. IsCrossedSpan (entering_from ray 1 sides) (leaving_from ray 1 sides) n (crossing_of plane ray) next)
    → MatchOption o (is_missed_by ray (sides ++ Some plane ∷ []) ≡ true) (λ next. IsSpanOf ray (sides ++ Some plane ∷ []) next)
joined_span ray sides plane n span e h None step =
    missed_append ray sides (Some plane) ∙ ap (λ (b : Bool). is_missed_by ray sides || (b || false)) step ∙ or_true (is_missed_by ray sides)
joined_span ray sides plane n span e h (Some next) step = record {
  missed = missed_append ray sides (Some plane) ∙ ap (λ (b : Bool). b || (is_miss (crossing_of plane ray) || false)) h.missed ∙ ap (λ (b : Bool). b || false) step.missed;
  start = subst (λ (cs : List Crossed). IsBest place_cmp ray_start cs next.start) (sym (entering_append ray n 1 sides (Some plane) e)) step.start;
  end = subst (λ (cs : List Crossed). IsBest turned_cmp ray_end cs next.end) (sym (leaving_append ray n 1 sides (Some plane) e)) step.end;
}

-- one more plane
pub span_next : (ray : Ray) (sides : List (Option Plane)) (side : Option Plane) (n : ℕ) (span : Span) → n ≡ 1 + length sides → IsSpanOf ray sides span
    → MatchOption (cut_span span n side ray) (is_missed_by ray (sides ++ side ∷ []) ≡ true) (λ next. IsSpanOf ray (sides ++ side ∷ []) next)
span_next ray sides None n span e h = record {
  missed = missed_append ray sides None ∙ or_false (is_missed_by ray sides) ∙ h.missed;
  start = subst (λ (cs : List Crossed). IsBest place_cmp ray_start cs span.start) (sym (entering_append ray n 1 sides None e ∙ append_none (entering_from ray 1 sides))) h.start;
  end = subst (λ (cs : List Crossed). IsBest turned_cmp ray_end cs span.end) (sym (leaving_append ray n 1 sides None e ∙ append_none (leaving_from ray 1 sides))) h.end;
}
span_next ray sides (Some plane) n span e h =
    joined_span ray sides plane n span e h (crossed_span span n (crossing_of plane ray))
    (crossed_step (entering_from ray 1 sides) (leaving_from ray 1 sides) span n (omega arith) h.start h.end (crossing_of plane ray))

-- once a plane missed, further planes don't help
pub missed_stays : (ray : Ray) (sides more : List (Option Plane)) → is_missed_by ray sides ≡ true → is_missed_by ray (sides ++ more) ≡ true
missed_stays ray [] more e = absurd (let f : false ≡ true = e in cc)
missed_stays ray (None ∷ sides) more e = missed_stays ray sides more e
missed_stays ray (Some plane ∷ sides) more e = missed_at (is_miss (crossing_of plane ray)) (is_missed_by ray sides) (is_missed_by ray (sides ++ more)) e (λ f. missed_stays ray sides more f)
  where
    missed_at : (a b c : Bool) → (a || b) ≡ true → ((b ≡ true) → (c ≡ true)) → (a || c) ≡ true
    missed_at true b c e f = refl
    missed_at false b c e f = f e

-- crossings are places
entered_place : (plane : Plane) (ray : Ray) (n : ℕ) (c : Crossing) → IsCrossing plane ray c → (rest : List Crossed) (x : Pos)
    → (Has (places_of rest) x → IsPlace x) → Has (places_of (entered n c ++ rest)) x → IsPlace x
entered_place plane ray n (Enters p q) h rest x more has = elim has [ inl e ↦ subst IsPlace e h.2 | inr later ↦ more later ]
entered_place plane ray n (Leaves p q) h rest x more has = more has
entered_place plane ray n Holds h rest x more has = more has
entered_place plane ray n Misses h rest x more has = more has

left_place : (plane : Plane) (ray : Ray) (n : ℕ) (c : Crossing) → IsCrossing plane ray c → (rest : List Crossed) (x : Pos)
    → (Has (places_of rest) x → IsPlace x) → Has (places_of (left n c ++ rest)) x → IsPlace x
left_place plane ray n (Enters p q) h rest x more has = more has
left_place plane ray n (Leaves p q) h rest x more has = elim has [ inl e ↦ subst IsPlace e h.2 | inr later ↦ more later ]
left_place plane ray n Holds h rest x more has = more has
left_place plane ray n Misses h rest x more has = more has

pub entering_places : (ray : Ray) (n : ℕ) (sides : List (Option Plane)) (x : Pos) → Has (places_of (entering_from ray n sides)) x → IsPlace x
entering_places ray n [] x has = absurd has
entering_places ray n (None ∷ sides) x has = entering_places ray (n + 1) sides x has
entering_places ray n (Some plane ∷ sides) x has =
    entered_place plane ray n (crossing_of plane ray) (crossing_is plane ray) (entering_from ray (n + 1) sides) x (λ more. entering_places ray (n + 1) sides x more) has

pub leaving_places : (ray : Ray) (n : ℕ) (sides : List (Option Plane)) (x : Pos) → Has (places_of (leaving_from ray n sides)) x → IsPlace x
leaving_places ray n [] x has = absurd has
leaving_places ray n (None ∷ sides) x has = leaving_places ray (n + 1) sides x has
leaving_places ray n (Some plane ∷ sides) x has =
    left_place plane ray n (crossing_of plane ray) (crossing_is plane ray) (leaving_from ray (n + 1) sides) x (λ more. leaving_places ray (n + 1) sides x more) has

-- crossings that are all places
pub record ArePlaces (cs : List Crossed) : Type 0 where
  pub each : (x : Pos) → Has (places_of cs) x → IsPlace x

face_same : (x y : Pos) → place_cmp x y ≡ Equal → (cs : List Crossed) → find (λ c. is_eq (place_cmp c.place x)) cs ≡ find (λ c. is_eq (place_cmp c.place y)) cs
face_same x y tie [] = refl
face_same x y tie (c ∷ cs) =
    let head : is_eq (place_cmp c.place x) ≡ is_eq (place_cmp c.place y) = ap is_eq (alike_right place_cmp_total x y c.place tie) in
    ap (λ (b : Bool). cond b (Some c) (find (λ (d : Crossed). is_eq (place_cmp d.place x)) cs)) head
    ∙ ap (λ (o : Option Crossed). cond (is_eq (place_cmp c.place y)) (Some c) o) (face_same x y tie cs)

made : Ordering → Pos → ℕ → Pos → ℕ → Option Seg
made r s f e g = cond (is_lt r) (Some (record { start = s; start_face = f; end = e; end_face = g })) None

made_same : {r r' : Ordering} {s s' e e' : Pos} {f f' g g' : ℕ} → r ≡ r' → s ≡ s' → f ≡ f' → e ≡ e' → g ≡ g' → made r s f e g ≡ made r' s' f' e' g'
made_same a b c d h = cc

foremost_of : (R : Pos → Pos → Ordering) (first : Pos) (cs : List Crossed) (best : Crossed) → IsBest R first cs best → (x : Pos) → IsForemost R first (places_of cs) x → IsRanking R → R x best.place ≡ Equal
foremost_of R first cs best h x g ranking = foremost_tie R ranking.total first (places_of cs) x best.place g h.place

-- a span that is finished is the segment between the whole lists
pub finished_parts : (es ls : List Crossed) (span : Span) → ArePlaces es → ArePlaces ls → IsSpanInRange span
    → IsBest place_cmp ray_start es span.start → IsBest turned_cmp ray_end ls span.end
    → IsForemost place_cmp ray_start (places_of es) (start_of es) → IsForemost turned_cmp ray_end (places_of ls) (end_of ls)
    → finished_span span ≡ segment_between es ls
unfolding made
finished_parts es ls span places places' range start end first last =
    let s : place_cmp (start_of es) span.start.place ≡ Equal = foremost_tie place_cmp place_cmp_total ray_start (places_of es) (start_of es) span.start.place first start.place in
    let e : place_cmp span.end.place (end_of ls) ≡ Equal = foremost_tie turned_cmp backwards.total ray_end (places_of ls) (end_of ls) span.end.place last end.place in
    let s_place : IsPlace (start_of es) = elim first.among [ inl same ↦ subst IsPlace same (omega (arith, ints)) | inr has ↦ places.each (start_of es) has ] in
    let e_place : IsPlace (end_of ls) = elim last.among [ inl same ↦ subst IsPlace same (omega (arith, ints)) | inr has ↦ places'.each (end_of ls) has ] in
    let order : place_cmp (start_of es) (end_of ls) ≡ place_cmp span.start.place span.end.place =
    place_cmp_total.congr (start_of es) span.start.place (end_of ls) s ∙ sym (alike_right place_cmp_total span.end.place (end_of ls) span.start.place e) in
    let spelled_start : spelled (start_of es) ≡ spelled span.start.place = spelled_tie (start_of es) span.start.place s_place (ranged_place span.start.place range.start) s in
    let spelled_end : spelled span.end.place ≡ spelled (end_of ls) = spelled_tie span.end.place (end_of ls) (ranged_place span.end.place range.end) e_place e in
    let face : span.start.face ≡ face_at (start_of es) es =
    face_is _ span.start.face start.face ∙ sym (ap face_or_none (face_same (start_of es) span.start.place s es)) in
    let face' : span.end.face ≡ face_at (end_of ls) ls =
    face_is _ span.end.face end.face ∙ ap face_or_none (face_same span.end.place (end_of ls) e ls) in
    made_same (sym order) (sym spelled_start) face spelled_end face'

pub finished : (ray : Ray) (sides : List (Option Plane)) (span : Span) → IsSpanInRange span → IsSpanOf ray sides span → finished_span span ≡ segment_through sides ray
finished ray sides span range h =
    let es : List Crossed = entering_from ray 1 sides in
    let ls : List Crossed = leaving_from ray 1 sides in
    finished_parts es ls span
    (record { each = entering_places ray 1 sides }) (record { each = leaving_places ray 1 sides }) range h.start h.end
    (foremost_is place_cmp ray_start (places_of es) span.start.place h.start.place)
    (foremost_is turned_cmp ray_end (places_of ls) span.end.place h.end.place)
    ∙ ap (λ (b : Bool). cond b None (segment_between es ls)) (sym h.missed)

pub missed_none : (ray : Ray) (sides : List (Option Plane)) → is_missed_by ray sides ≡ true → segment_through sides ray ≡ None
missed_none ray sides e = ap (λ (b : Bool). cond b None (segment_between (entering_from ray 1 sides) (leaving_from ray 1 sides))) e

pub loop_cut : (ray : Ray) (all : List (Option Plane)) (i : ℕ) (span : Span) (next : Option Span) → next ≡ cut_span span (i + 1) (slice_index_or all ((i + 1) - 1) None) ray
    → next ≡ cut_span span (i + 1) (slice_index_or all i None) ray
loop_cut ray all i span next e =
    let back : (i + 1) - 1 ≡ i = omega arith in
    e ∙ ap (λ (k : ℕ). cut_span span (i + 1) (slice_index_or all k None) ray) back

-- the step of a loop over all planes
pub loop_next : (ray : Ray) (all : List (Option Plane)) (i : ℕ) (span : Span) → i < length all → IsSpanOf ray (take i all) span
    → MatchOption (cut_span span (i + 1) (slice_index_or all i None) ray) (is_missed_by ray (take (i + 1) all) ≡ true) (λ next. IsSpanOf ray (take (i + 1) all) next)
loop_next ray all i span lt h =
    let n : i + 1 ≡ 1 + length (take i all) = let l : length (take i all) ≡ i = length-take-le i all (omega arith) in omega (arith, l) in
    subst (λ (sides : List (Option Plane)). MatchOption (cut_span span (i + 1) (slice_index_or all i None) ray) (is_missed_by ray sides ≡ true) (λ next. IsSpanOf ray sides next))
    (sym (take_more all i None lt))
    (span_next ray (take i all) (slice_index_or all i None) (i + 1) span n h)

pub loop_missed : (ray : Ray) (all : List (Option Plane)) (i : ℕ) → is_missed_by ray (take (i + 1) all) ≡ true → segment_through all ray ≡ None
loop_missed ray all i e =
    missed_none ray all (subst (λ (sides : List (Option Plane)). is_missed_by ray sides ≡ true) (take-append-drop (i + 1) all) (missed_stays ray (take (i + 1) all) (drop (i + 1) all) e))

pub at_none : (P : Type 0) (Q : Span → Type 0) (o : Option Span) → o ≡ None → MatchOption o P Q → P
at_none P Q o e h = subst (λ (p : Option Span). MatchOption p P Q) e h

pub at_some : (P : Type 0) (Q : Span → Type 0) (o : Option Span) (x : Span) → o ≡ Some x → MatchOption o P Q → Q x
at_some P Q o x e h = subst (λ (p : Option Span). MatchOption p P Q) e h
