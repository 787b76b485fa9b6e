-- A ray that misses the box of an instance has no segment in it.
use Rattle.std.proofs.Common.{◌≡◌, ℤ, pos, ◌*ℤ◌, ◌<ℤ◌, ◌≤ℤ◌, Bool, true, false, cond, List, Option, Some, None, refl, ap, sym, subst, inl, inr, arith}
use Rattle.std.proofs.lemmas.Int.{ints, by_lt_z}
use Rattle.std.specs.Ordering.{is_lt}
use Rattle.std.specs.declared.cmp.Ordering.{Ordering}
use Rattle.std.specs.declared.cmp.Ordering.TheVariants.{Less, Equal, Greater}
use Rattle.lattice_core.specs.declared.limit.TheConstants.{FAR}
use Rattle.lattice_core.specs.declared.boxes.Box3.{Box3}
use Rattle.lattice_core.specs.declared.ray.Ray.{Ray}
use Rattle.lattice_core.specs.Boxes.{MeetsRay}
use Rattle.lattice_core.specs.Rays.{IsOnRay}
use Rattle.surd_order.specs.declared.position.Pos.{Pos}
use Rattle.surd_order.specs.declared.position.Pos.TheVariants.{Frac, Surd}
use Rattle.surd_order.specs.declared.position.Seg.{Seg}
use Rattle.surd_order.specs.Order.{Precedes, IsPlace}
use Rattle.surd_order.specs.PlaceOrder.{place_cmp}
use Rattle.surd_order.specs.Spelled.{spelled}
use Rattle.surd_order.specs.Spelling.{IsSpelled}
use Rattle.surd_order.proofs.LawProofs.{is_kept_by_same_place}
use Rattle.surd_order.proofs.OrderLaws.{between, same_symm}
use Rattle.surd_order.proofs.PlaceOrderLaws.{places_are_compared}
use Rattle.surd_order.proofs.SpelledPlaces.{is_one_spelling}
use Rattle.solid_set.specs.declared.crossed.Crossed.{Crossed}
use Rattle.solid_set.specs.declared.surface.Surface.{Surface}
use Rattle.solid_set.specs.Laws.{TellsInside, Encloses}
use Rattle.solid_set.specs.Segments.{ray_start, ray_end, face_at, start_of, end_of, segment_between, segment_of, entering, leaving, is_missed}
use Rattle.solid_set.specs.Surfaces.{HoldsInside}
use Rattle.solid_set.proofs.InsideLaws.{AreEnds, not_preceding}
use Rattle.solid_set.proofs.SurfaceLaws.{enter_places, leave_places, ends_of, segment_tells}
use Rattle.solid_set.proofs.Between.{between_places}

spelled_place : (x : Pos) → IsSpelled x → IsPlace x
spelled_place (Frac p q) h = h.0
spelled_place (Surd a plus k) h = tt

begun : (x : Pos) (p q : ℤ) → pos 0 <ℤ q → ¬ (Precedes x ray_start) → Precedes x (Frac p q) → pos 0 ≤ℤ p
begun x p q some not after =
    by_lt_z p (pos 0)
    (λ lt. elim (between x ray_start (Frac p q) after) [
      | inl before ↦ absurd (not before)
      | inr after ↦ absurd (not_preceding (pos 0) (pos 1) p q (omega (arith, ints)) some (omega (arith, ints, lt)) after)
    ])
    (λ le. le)

not_ended : (y : Pos) (p q : ℤ) → pos 0 <ℤ q → ¬ (Precedes ray_end y) → Precedes (Frac p q) y → p ≤ℤ (FAR *ℤ q)
not_ended y p q some not before =
    by_lt_z (FAR *ℤ q) p
    (λ lt. elim (between (Frac p q) ray_end y before) [
      | inl before ↦ absurd (not_preceding p q FAR (pos 1) some (omega (arith, ints)) (omega (arith, ints, lt)) before)
      | inr beyond ↦ absurd (not beyond)
    ])
    (λ le. le)

-- a segment lies on the ray, its start before its end
pub record LiesOnRay (seg : Seg) : Type 0 where
  pub place : IsPlace seg.start
  pub ordered : Precedes seg.start seg.end
  pub begun : ¬ (Precedes seg.start ray_start)
  pub not_ended : ¬ (Precedes ray_end seg.end)

lies : (es ls : List Crossed) (seg : Seg) → AreEnds es ls (start_of es) (end_of ls) → seg.start ≡ spelled (start_of es) → seg.end ≡ spelled (end_of ls) → Precedes (start_of es) (end_of ls) → LiesOnRay seg
lies es ls seg ends s_is e_is before =
    let same = is_one_spelling.place (start_of es) ends.start_place in
    let same' = is_one_spelling.place (end_of ls) ends.end_place in
    let first : Precedes (spelled (start_of es)) (end_of ls) = is_kept_by_same_place.before (spelled (start_of es)) (start_of es) (end_of ls) same before in
    let ordered : Precedes (spelled (start_of es)) (spelled (end_of ls)) = is_kept_by_same_place.after (spelled (start_of es)) (end_of ls) (spelled (end_of ls)) first (same_symm _ _ same') in
    record {
      place = spelled_place seg.start (subst IsSpelled (sym s_is) (is_one_spelling.spelling (start_of es) ends.start_place));
      ordered = subst (λ (x : Pos). Precedes x seg.end) (sym s_is) (subst (λ (y : Pos). Precedes (spelled (start_of es)) y) (sym e_is) ordered);
      begun = λ early. ends.start_first ray_start (inl refl) (is_kept_by_same_place.before (start_of es) (spelled (start_of es)) ray_start (same_symm _ _ same) (subst (λ (x : Pos). Precedes x ray_start) s_is early));
      not_ended = λ late. ends.end_last ray_end (inl refl) (is_kept_by_same_place.after ray_end (spelled (end_of ls)) (end_of ls) (subst (λ (x : Pos). Precedes ray_end x) e_is late) same');
    }

none_some : (seg : Seg) → None ≡ Some seg → ⊥
none_some seg e = cc

lies_by : (es ls : List Crossed) (seg : Seg) → AreEnds es ls (start_of es) (end_of ls) → (r : Ordering) → place_cmp (start_of es) (end_of ls) ≡ r
    → cond (is_lt r) (Some (let found : Seg = record { start = spelled (start_of es); start_face = face_at (start_of es) es; end = spelled (end_of ls); end_face = face_at (end_of ls) ls } in found)) None ≡ Some seg
    → LiesOnRay seg
lies_by es ls seg ends Less order is =
    let found : Seg = record { start = spelled (start_of es); start_face = face_at (start_of es) es; end = spelled (end_of ls); end_face = face_at (end_of ls) ls } in
    let same : found ≡ seg = cc in
    lies es ls seg ends (ap (λ (s : Seg). s.start) (sym same)) (ap (λ (s : Seg). s.end) (sym same))
    ((places_are_compared (start_of es) (end_of ls) ends.start_place ends.end_place).less.0 order)
lies_by es ls seg ends Equal order is = absurd (none_some seg is)
lies_by es ls seg ends Greater order is = absurd (none_some seg is)

missed_lies : (b : Bool) (es ls : List Crossed) (seg : Seg) → AreEnds es ls (start_of es) (end_of ls) → cond b None (segment_between es ls) ≡ Some seg → LiesOnRay seg
missed_lies true es ls seg ends is = absurd (none_some seg is)
missed_lies false es ls seg ends is = lies_by es ls seg ends (place_cmp (start_of es) (end_of ls)) refl is

pub segment_lies : (surface : Surface) (ray : Ray) (seg : Seg) → segment_of surface ray ≡ Some seg → LiesOnRay seg
segment_lies surface ray seg is =
    missed_lies (is_missed surface ray) (entering surface ray) (leaving surface ray) seg
    (ends_of (entering surface ray) (leaving surface ray) (enter_places surface ray) (leave_places surface ray)) is

-- a segment lies in the box of its solid
seg_meets : (surface : Surface) (bounds : Box3) (ray : Ray) (seg : Seg) → HoldsInside surface bounds → Encloses surface ray seg → LiesOnRay seg → MeetsRay bounds ray
seg_meets surface bounds ray seg holds encloses on_ray =
    let f = between_places seg.start seg.end on_ray.place on_ray.ordered in
    let on : IsOnRay f.p f.q = record { positive = f.positive; begun = begun seg.start f.p f.q f.positive on_ray.begun f.after; not_ended = not_ended seg.end f.p f.q f.positive on_ray.not_ended f.before } in
    record { p = f.p; q = f.q; on_ray = on; inside = holds ray f.p f.q f.positive (encloses.between f.p f.q f.positive f.after f.before) }

missed_by : (surface : Surface) (bounds : Box3) (ray : Ray) (o : Option Seg) → segment_of surface ray ≡ o → HoldsInside surface bounds → TellsInside surface ray o → ¬ (MeetsRay bounds ray) → o ≡ None
missed_by surface bounds ray None is holds tells away = refl
missed_by surface bounds ray (Some seg) is holds tells away = absurd (away (seg_meets surface bounds ray seg holds tells (segment_lies surface ray seg is)))

-- a ray that misses the box has no segment
pub missed : (surface : Surface) (bounds : Box3) (ray : Ray) → HoldsInside surface bounds → ¬ (MeetsRay bounds ray) → segment_of surface ray ≡ None
missed surface bounds ray holds away = missed_by surface bounds ray (segment_of surface ray) refl holds (segment_tells surface ray) away
