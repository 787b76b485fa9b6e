-- The part of a ray that the planes so far hold, in the words of the code.
use Rattle.std.specs.Prelude.{ℕ, ◌==◌, Bool, true, false, cond, Option, Some, None}
use Rattle.std.specs.Ordering.{is_lt}
use Rattle.std.specs.declared.cmp.Ordering.{Ordering}
use Rattle.std.specs.declared.cmp.Ordering.TheVariants.{Less, Equal, Greater}
use Rattle.lattice_core.specs.declared.ray.Ray.{Ray}
use Rattle.plane_geom.specs.declared.plane.Plane.{Plane}
use Rattle.plane_geom.specs.declared.plane.Crossing.{Crossing}
use Rattle.plane_geom.specs.declared.plane.Crossing.TheVariants.{Enters, Leaves, Holds, Misses}
use Rattle.plane_geom.specs.declared.chord.Chord.{Chord}
use Rattle.surd_order.specs.declared.position.Pos.{Pos}
use Rattle.surd_order.specs.declared.position.Pos.TheVariants.{Frac, Surd}
use Rattle.surd_order.specs.declared.position.Seg.{Seg}
use Rattle.prim_rcc.specs.declared.side.RoundCrossing.{RoundCrossing}
use Rattle.prim_rcc.specs.declared.side.RoundCrossing.TheVariants as rounds
use Rattle.surd_order.specs.Range.{IsInRange, IsSurdInRange}
use Rattle.surd_order.specs.PlaceOrder.{place_cmp}
use Rattle.solid_set.specs.declared.crossed.Crossed.{Crossed}
use Rattle.solid_set.specs.declared.span.Span.{Span}
use Rattle.surd_order.specs.Spelled.{spelled}
use Rattle.plane_geom.specs.Crossings.{side_crossing}
use Rattle.solid_set.specs.Crossings.{crossed_at}
use Rattle.solid_set.specs.Segments.{ray_start, ray_end}

pub record IsSpanInRange (span : Span) : Type 0 where
  pub start : IsInRange span.start.place
  pub end : IsInRange span.end.place

abbrev pub IsCrossingInRange : Crossing → Type 0
IsCrossingInRange (Enters p q) = IsInRange (Frac p q)
IsCrossingInRange (Leaves p q) = IsInRange (Frac p q)
IsCrossingInRange Holds = Unit {0}
IsCrossingInRange Misses = Unit {0}

abbrev pub at : ℕ → Pos → Crossed
at face place = record { face = face; place = place }

abbrev pub chosen : Ordering → Crossed → Crossed → Crossed
chosen Less best next = best
chosen Equal best next = cond (best.face == 0) (at next.face best.place) best
chosen Greater best next = next

abbrev pub later : Crossed → Crossed → Crossed
later best next = chosen (place_cmp next.place best.place) best next

abbrev pub earlier : Crossed → Crossed → Crossed
earlier best next = chosen (place_cmp best.place next.place) best next

abbrev pub span_of : Crossed → Crossed → Span
span_of start end = record { start = start; end = end }

abbrev pub whole_span : Span
whole_span = span_of (at 0 ray_start) (at 0 ray_end)

abbrev pub crossed_span : Span → ℕ → Crossing → Option Span
crossed_span span face (Enters p q) = Some (span_of (later span.start (crossed_at face p q)) span.end)
crossed_span span face (Leaves p q) = Some (span_of span.start (earlier span.end (crossed_at face p q)))
crossed_span span face Holds = Some span
crossed_span span face Misses = None

abbrev pub cut_span : Span → ℕ → Option Plane → Ray → Option Span
cut_span span face side ray = crossed_span span face (side_crossing side ray)

abbrev pub segment_at : Crossed → Crossed → Seg
segment_at start end = record { start = spelled start.place; start_face = start.face; end = spelled end.place; end_face = end.face }

abbrev pub finished_span : Span → Option Seg
finished_span span = cond (is_lt (place_cmp span.start.place span.end.place)) (Some (segment_at span.start span.end)) None

abbrev pub chord_crossed : ℕ → Chord → Bool → Crossed
chord_crossed face chord plus = at face (Surd chord.a plus chord.k)

abbrev pub ball_crossed : Chord → Bool → Crossed
ball_crossed chord plus = chord_crossed 1 chord plus

abbrev pub ball_span : Chord → Span
ball_span chord = span_of (later (at 0 ray_start) (ball_crossed chord false)) (earlier (at 0 ray_end) (ball_crossed chord true))

abbrev pub IsRoundInRange : RoundCrossing → Type 0
IsRoundInRange (rounds.Through chord) = IsSurdInRange chord.a chord.k
IsRoundInRange rounds.Holds = Unit {0}
IsRoundInRange rounds.Misses = Unit {0}

abbrev pub run_span : Span → RoundCrossing → Option Span
run_span span (rounds.Through chord) = Some (span_of (later span.start (chord_crossed 3 chord false)) (earlier span.end (chord_crossed 3 chord true)))
run_span span rounds.Holds = Some span
run_span span rounds.Misses = None
