-- What whole lists of crossings tell of the points of a ray.
use Rattle.std.proofs.Common.{◌≡◌, ◌↔◌, ◌∙◌, ℕ, ◌+◌, ℤ, pos, ◌*ℤ◌, ◌<ℤ◌, ◌≤ℤ◌, Bool, true, false, cond, ◌||◌, List, [], ◌∷◌, ◌++◌, Option, Some, None, refl, ap, sym, subst, inl, inr, arith}
use Rattle.std.proofs.lemmas.Int.{ints, by_lt_z}
use Rattle.std.specs.Ordering.{is_lt, is_gt}
use Rattle.std.specs.declared.cmp.Ordering.{Ordering}
use Rattle.std.specs.declared.cmp.Ordering.TheVariants.{Less, Equal, Greater}
use Rattle.lattice_core.specs.declared.ray.Ray.{Ray}
use Rattle.lattice_core.specs.declared.limit.TheConstants.{FAR}
use Rattle.lattice_core.specs.Rays.{IsOnRay}
use Rattle.plane_geom.specs.declared.plane.Plane.{Plane}
use Rattle.plane_geom.specs.declared.plane.Crossing.{Crossing}
use Rattle.plane_geom.specs.declared.plane.Crossing.TheVariants.{Enters, Leaves, Holds, Misses}
use Rattle.plane_geom.specs.Planes.{IsCrossing, PlaneHolds}
use Rattle.surd_order.specs.declared.position.Pos.{Pos}
use Rattle.surd_order.specs.declared.position.Pos.TheVariants.{Frac}
use Rattle.surd_order.specs.declared.position.Seg.{Seg}
use Rattle.surd_order.specs.Order.{Precedes, SamePlace, IsPlace}
use Rattle.surd_order.proofs.FractionOrder.{fraction_before, fractions_same}
use Rattle.surd_order.proofs.LawProofs.{is_kept_by_same_place}
use Rattle.surd_order.proofs.OrderLaws.{asymmetric, same_symm, between}
use Rattle.surd_order.specs.PlaceOrder.{place_cmp}
use Rattle.surd_order.specs.Spelled.{spelled}
use Rattle.surd_order.proofs.SpelledPlaces.{is_one_spelling}
use Rattle.surd_order.proofs.PlaceOrderLaws.{places_are_compared}
use Rattle.solid_set.specs.declared.crossed.Crossed.{Crossed}
use Rattle.solid_set.specs.declared.surface.Surface.{Surface}
use Rattle.plane_geom.specs.Crossings.{crossing_of}
use Rattle.solid_set.specs.Crossings.{entered, left, is_miss, entering_from, leaving_from, is_missed_by}
use Rattle.solid_set.specs.Segments.{ray_start, ray_end, places_of, start_of, end_of, segment_between}
use Rattle.solid_set.specs.Surfaces.{AllHold, IsInside}
use Rattle.solid_set.specs.Laws.{IsWithinRay, Encloses, HoldsAtMostOne, TellsInside}
use Rattle.solid_set.proofs.Ranking.{turned_cmp}
use Rattle.solid_set.proofs.Foremost.{Has, IsForemost, none_at}
use Rattle.plane_geom.proofs.Unique.{crossing_is}
use Rattle.solid_set.proofs.SpanLaws.{ArePlaces}

-- a fraction precedes none of the places
abbrev pub NoneAfter : List Pos → Pos → Type 0
NoneAfter [] f = Unit {0}
NoneAfter (y ∷ ys) f = (¬ (Precedes f y)) × NoneAfter ys f

-- none of the places precedes a fraction
abbrev pub NoneBefore : List Pos → Pos → Type 0
NoneBefore [] f = Unit {0}
NoneBefore (y ∷ ys) f = (¬ (Precedes y f)) × NoneBefore ys f

-- inside is where a fraction is at or after all entering crossings, and at or before all leaving ones
pub record IsCutBy (surface : Surface) (ray : Ray) (es ls : List Crossed) : Type 0 where
  pub after : (p q : ℤ) → pos 0 <ℤ q → IsInside surface ray p q → NoneAfter (places_of es) (Frac p q)
  pub before : (p q : ℤ) → pos 0 <ℤ q → IsInside surface ray p q → NoneBefore (places_of ls) (Frac p q)
  pub inside : (p q : ℤ) → pos 0 <ℤ q → NoneAfter (places_of es) (Frac p q) → NoneBefore (places_of ls) (Frac p q) → IsInside surface ray p q

-- p / q does not precede r / s where r q is at most p s
pub not_preceding : (p q r s : ℤ) → pos 0 <ℤ q → pos 0 <ℤ s → (r *ℤ q) ≤ℤ (p *ℤ s) → ¬ (Precedes (Frac p q) (Frac r s))
not_preceding p q r s some some' le =
    by_lt_z (r *ℤ q) (p *ℤ s)
    (λ lt. asymmetric (Frac r s) (Frac p q) some' some (fraction_before r s p q some lt))
    (λ ge. (fractions_same p q r s some some' (omega (arith, ints))).not_before)

pub preceding : (p q r s : ℤ) → pos 0 <ℤ s → ¬ (Precedes (Frac p q) (Frac r s)) → (r *ℤ q) ≤ℤ (p *ℤ s)
preceding p q r s some not_before = by_lt_z (p *ℤ s) (r *ℤ q) (λ lt. absurd (not_before (fraction_before p q r s some lt))) (λ le. le)

-- one plane after another
pub record IsHeldHere (es ls : List Crossed) (P : Type 0) (f : Pos) : Type 0 where
  pub after : P → NoneAfter (places_of es) f
  pub before : P → NoneBefore (places_of ls) f
  pub inside : NoneAfter (places_of es) f → NoneBefore (places_of ls) f → P

held_more : (plane : Plane) (ray : Ray) (n : ℕ) (p q : ℤ) → pos 0 <ℤ q → (es ls : List Crossed) (P : Type 0) → IsHeldHere es ls P (Frac p q) → (c : Crossing) → IsCrossing plane ray c → is_miss c ≡ false
    → IsHeldHere (entered n c ++ es) (left n c ++ ls) (PlaneHolds plane ray p q × P) (Frac p q)
held_more plane ray n p q some es ls P h (Enters r s) crossing e = record {
  after = λ both. (not_preceding p q r s some crossing.2 ((crossing.3 p q some).0 both.0), h.after both.1);
  before = λ both. h.before both.1;
  inside = λ after before. ((crossing.3 p q some).1 (preceding p q r s crossing.2 after.0), h.inside after.1 before);
}
held_more plane ray n p q some es ls P h (Leaves r s) crossing e = record {
  after = λ both. h.after both.1;
  before = λ both. (not_preceding r s p q crossing.2 some ((crossing.3 p q some).0 both.0), h.before both.1);
  inside = λ after before. ((crossing.3 p q some).1 (preceding r s p q some before.0), h.inside after before.1);
}
held_more plane ray n p q some es ls P h Holds crossing e = record {
  after = λ both. h.after both.1;
  before = λ both. h.before both.1;
  inside = λ after before. (crossing p q some, h.inside after before);
}
held_more plane ray n p q some es ls P h Misses crossing e = absurd (let f : true ≡ false = e in cc)

pub none_of_or : (a b : Bool) → (a || b) ≡ false → (a ≡ false) × (b ≡ false)
none_of_or true b e = absurd (let f : true ≡ false = e in cc)
none_of_or false b e = (refl, e)

pub planes_held : (ray : Ray) (n : ℕ) (sides : List (Option Plane)) (p q : ℤ) → pos 0 <ℤ q → is_missed_by ray sides ≡ false
    → IsHeldHere (entering_from ray n sides) (leaving_from ray n sides) (AllHold sides ray p q) (Frac p q)
planes_held ray n [] p q some e = record { after = λ h. tt; before = λ h. tt; inside = λ h g. tt }
planes_held ray n (None ∷ sides) p q some e = planes_held ray (n + 1) sides p q some e
planes_held ray n (Some plane ∷ sides) p q some e =
    let parts = none_of_or (is_miss (crossing_of plane ray)) (is_missed_by ray sides) e in
    held_more plane ray n p q some (entering_from ray (n + 1) sides) (leaving_from ray (n + 1) sides) (AllHold sides ray p q)
    (planes_held ray (n + 1) sides p q some parts.1) (crossing_of plane ray) (crossing_is plane ray) parts.0

missed_plane : (plane : Plane) (ray : Ray) (c : Crossing) → IsCrossing plane ray c → is_miss c ≡ true → (p q : ℤ) → pos 0 <ℤ q → ¬ (PlaneHolds plane ray p q)
missed_plane plane ray (Enters r s) h e p q some = absurd (let f : false ≡ true = e in cc)
missed_plane plane ray (Leaves r s) h e p q some = absurd (let f : false ≡ true = e in cc)
missed_plane plane ray Holds h e p q some = absurd (let f : false ≡ true = e in cc)
missed_plane plane ray Misses h e p q some = h p q some

pub missed_or : (a b : Bool) (P : Type 0) → (a || b) ≡ true → (a ≡ true → P) → (b ≡ true → P) → P
missed_or true b P e f g = f refl
missed_or false b P e f g = g e

pub missed_all : (ray : Ray) (sides : List (Option Plane)) → is_missed_by ray sides ≡ true → (p q : ℤ) → pos 0 <ℤ q → ¬ (AllHold sides ray p q)
missed_all ray [] e p q some = absurd (let f : false ≡ true = e in cc)
missed_all ray (None ∷ sides) e p q some = missed_all ray sides e p q some
missed_all ray (Some plane ∷ sides) e p q some = λ h.
    missed_or (is_miss (crossing_of plane ray)) (is_missed_by ray sides) ⊥ e
    (λ here. missed_plane plane ray (crossing_of plane ray) (crossing_is plane ray) here p q some h.0)
    (λ there. missed_all ray sides there p q some h.1)

-- what is not ahead of the foremost place
not_ahead : (x y : Pos) → IsPlace x → IsPlace y → is_gt (place_cmp y x) ≡ false → ¬ (Precedes x y)
not_ahead x y place place' e = λ before. let gt : place_cmp y x ≡ Greater = (places_are_compared y x place' place).greater.1 before in absurd (let f : true ≡ false = sym (ap is_gt gt) ∙ e in cc)

pub has_none_after : (ys : List Pos) (x f : Pos) → Has ys x → NoneAfter ys f → ¬ (Precedes f x)
has_none_after [] x f has none = absurd has
has_none_after (y ∷ ys) x f has none = elim has [ inl e ↦ subst (λ (z : Pos). ¬ (Precedes f z)) e none.0 | inr more ↦ has_none_after ys x f more none.1 ]

pub has_none_before : (ys : List Pos) (x f : Pos) → Has ys x → NoneBefore ys f → ¬ (Precedes x f)
has_none_before [] x f has none = absurd has
has_none_before (y ∷ ys) x f has none = elim has [ inl e ↦ subst (λ (z : Pos). ¬ (Precedes z f)) e none.0 | inr more ↦ has_none_before ys x f more none.1 ]

-- a fraction that does not precede the start precedes no place that is not ahead of it
all_none_after : (ys : List Pos) (x f : Pos) → ¬ (Precedes f x) → ((y : Pos) → Has ys y → ¬ (Precedes x y)) → NoneAfter ys f
all_none_after [] x f not_before ahead = tt
all_none_after (y ∷ ys) x f not_before ahead = (
  (λ before. elim (between f x y before) [ inl early ↦ not_before early | inr late ↦ ahead y (inl refl) late ]),
  all_none_after ys x f not_before (λ z has. ahead z (inr has)),
)

all_none_before : (ys : List Pos) (x f : Pos) → ¬ (Precedes x f) → ((y : Pos) → Has ys y → ¬ (Precedes y x)) → NoneBefore ys f
all_none_before [] x f not_after ahead = tt
all_none_before (y ∷ ys) x f not_after ahead = (
  (λ before. elim (between y x f before) [ inl early ↦ ahead y (inl refl) early | inr late ↦ not_after late ]),
  all_none_before ys x f not_after (λ z has. ahead z (inr has)),
)

-- the start and the end of whole lists of crossings
pub record AreEnds (es ls : List Crossed) (s e : Pos) : Type 0 where
  pub start_place : IsPlace s
  pub start_among : Has (ray_start ∷ places_of es) s
  pub start_first : (y : Pos) → Has (ray_start ∷ places_of es) y → ¬ (Precedes s y)
  pub end_place : IsPlace e
  pub end_among : Has (ray_end ∷ places_of ls) e
  pub end_last : (y : Pos) → Has (ray_end ∷ places_of ls) y → ¬ (Precedes y e)

all_places : (first : Pos) (cs : List Crossed) → IsPlace first → ArePlaces cs → (y : Pos) → Has (first ∷ places_of cs) y → IsPlace y
all_places first cs place places y has = elim has [ inl e ↦ subst IsPlace e place | inr more ↦ places.each y more ]

pub ends_are : (es ls : List Crossed) → ArePlaces es → ArePlaces ls → IsForemost place_cmp ray_start (places_of es) (start_of es) → IsForemost turned_cmp ray_end (places_of ls) (end_of ls)
    → AreEnds es ls (start_of es) (end_of ls)
ends_are es ls places places' first last =
    let zero_place : IsPlace ray_start = omega (arith, ints) in
    let far_place : IsPlace ray_end = omega (arith, ints) in
    let s_place : IsPlace (start_of es) = all_places ray_start es zero_place places (start_of es) first.among in
    let e_place : IsPlace (end_of ls) = all_places ray_end ls far_place places' (end_of ls) last.among in
    record {
      start_place = s_place;
      start_among = first.among;
      start_first = λ y has. not_ahead (start_of es) y s_place (all_places ray_start es zero_place places y has) (none_at place_cmp (ray_start ∷ places_of es) (start_of es) y first.ahead has);
      end_place = e_place;
      end_among = last.among;
      end_last = λ y has. not_ahead y (end_of ls) (all_places ray_end ls far_place places' y has) e_place (none_at turned_cmp (ray_end ∷ places_of ls) (end_of ls) y last.ahead has);
    }

not_before_ray : (p q : ℤ) → IsOnRay p q → ¬ (Precedes (Frac p q) ray_start)
not_before_ray p q h = not_preceding p q (pos 0) (pos 1) h.positive (omega (arith, ints)) (omega (arith, ints, h.begun))

not_after_ray : (p q : ℤ) → IsOnRay p q → ¬ (Precedes ray_end (Frac p q))
not_after_ray p q h = not_preceding FAR (pos 1) p q (omega (arith, ints)) h.positive (omega (arith, ints, h.not_ended))

not_early : (p q : ℤ) → ¬ (Precedes (Frac p q) ray_start) → pos 0 ≤ℤ p
not_early p q h = by_lt_z p (pos 0) (λ lt. absurd (h (fraction_before p q (pos 0) (pos 1) (omega (arith, ints)) (omega (arith, ints, lt))))) (λ le. le)

not_late : (p q : ℤ) → pos 0 <ℤ q → ¬ (Precedes ray_end (Frac p q)) → p ≤ℤ (FAR *ℤ q)
not_late p q some h = by_lt_z (FAR *ℤ q) p (λ lt. absurd (h (fraction_before FAR (pos 1) p q some (omega (arith, ints, lt))))) (λ le. le)

-- a fraction lies on a ray exactly where it is between the ends of rays
pub on_ray_within : (p q : ℤ) → pos 0 <ℤ q → IsOnRay p q ↔ IsWithinRay (Frac p q)
on_ray_within p q some = (
  λ on. (not_before_ray p q on, not_after_ray p q on),
  λ h. record { positive = some; begun = not_early p q h.0; not_ended = not_late p q some h.1 },
)

pub encloses : (surface : Surface) (ray : Ray) (es ls : List Crossed) (seg : Seg) → IsCutBy surface ray es ls → (s e : Pos) → AreEnds es ls s e → SamePlace seg.start s → SamePlace seg.end e → Encloses surface ray seg
encloses surface ray es ls seg cut s e ends same same' = record {
  between = λ p q some after before.
      let late : Precedes s (Frac p q) = is_kept_by_same_place.before s seg.start (Frac p q) (same_symm seg.start s same) after in
      let early : Precedes (Frac p q) e = is_kept_by_same_place.after (Frac p q) seg.end e before same' in
      cut.inside p q some
      (all_none_after (places_of es) s (Frac p q) (asymmetric s (Frac p q) ends.start_place some late) (λ y has. ends.start_first y (inr has)))
      (all_none_before (places_of ls) e (Frac p q) (asymmetric (Frac p q) e some ends.end_place early) (λ y has. ends.end_last y (inr has)));
  before = λ p q on early inside.
      has_none_after (ray_start ∷ places_of es) s (Frac p q) ends.start_among (not_before_ray p q on, cut.after p q on.positive inside)
      (is_kept_by_same_place.after (Frac p q) seg.start s early same);
  after = λ p q on late inside.
      has_none_before (ray_end ∷ places_of ls) e (Frac p q) ends.end_among (not_after_ray p q on, cut.before p q on.positive inside)
      (is_kept_by_same_place.before e seg.end (Frac p q) (same_symm seg.end e same') late);
}

no_two : (surface : Surface) (ray : Ray) (es ls : List Crossed) → IsCutBy surface ray es ls → (s e : Pos) → AreEnds es ls s e → ¬ (Precedes s e)
    → (p q p' q' : ℤ) → IsOnRay p q → IsOnRay p' q' → IsInside surface ray p q → IsInside surface ray p' q' → ¬ (Precedes (Frac p q) (Frac p' q'))
no_two surface ray es ls cut s e ends empty p q p' q' on on' inside inside' = λ before.
    let not_early : ¬ (Precedes (Frac p q) s) = has_none_after (ray_start ∷ places_of es) s (Frac p q) ends.start_among (not_before_ray p q on, cut.after p q on.positive inside) in
    let not_late : ¬ (Precedes e (Frac p' q')) = has_none_before (ray_end ∷ places_of ls) e (Frac p' q') ends.end_among (not_after_ray p' q' on', cut.before p' q' on'.positive inside') in
    elim (between (Frac p q) s (Frac p' q') before) [
      | inl early ↦ not_early early
      | inr rest ↦ elim (between s e (Frac p' q') rest) [ inl some ↦ empty some | inr late ↦ not_late late ]
    ]

pub holds_one : (surface : Surface) (ray : Ray) (es ls : List Crossed) → IsCutBy surface ray es ls → (s e : Pos) → AreEnds es ls s e → ¬ (Precedes s e) → HoldsAtMostOne surface ray
holds_one surface ray es ls cut s e ends empty = λ p q p' q' on on' inside inside'. record {
  not_before = no_two surface ray es ls cut s e ends empty p q p' q' on on' inside inside';
  not_after = no_two surface ray es ls cut s e ends empty p' q' p q on' on inside' inside;
}

tells_by : (surface : Surface) (ray : Ray) (es ls : List Crossed) → IsCutBy surface ray es ls → AreEnds es ls (start_of es) (end_of ls) → (r : Ordering) → place_cmp (start_of es) (end_of ls) ≡ r
    → TellsInside surface ray (cond (is_lt r) (Some (record { start = spelled (start_of es); start_face = Rattle.solid_set.specs.Segments.face_at (start_of es) es; end = spelled (end_of ls); end_face = Rattle.solid_set.specs.Segments.face_at (end_of ls) ls })) None)
tells_by surface ray es ls cut ends Less e =
    encloses surface ray es ls _ cut (start_of es) (end_of ls) ends (is_one_spelling.place (start_of es) ends.start_place) (is_one_spelling.place (end_of ls) ends.end_place)
tells_by surface ray es ls cut ends Equal e =
    holds_one surface ray es ls cut (start_of es) (end_of ls) ends (λ before. let less = (places_are_compared (start_of es) (end_of ls) ends.start_place ends.end_place).less.1 before in cc)
tells_by surface ray es ls cut ends Greater e =
    holds_one surface ray es ls cut (start_of es) (end_of ls) ends (λ before. let less = (places_are_compared (start_of es) (end_of ls) ends.start_place ends.end_place).less.1 before in cc)

pub tells : (surface : Surface) (ray : Ray) (es ls : List Crossed) → IsCutBy surface ray es ls → AreEnds es ls (start_of es) (end_of ls) → TellsInside surface ray (segment_between es ls)
tells surface ray es ls cut ends = tells_by surface ray es ls cut ends (place_cmp (start_of es) (end_of ls)) refl
