-- One region lies first on a ray, of those without air.
use Rattle.std.proofs.Common.{◌≡◌, ◌<◌, ℕ, ℤ, List, slice_get, false, Some, None, Contains, ap, sym, ◌∙◌, subst, inl, inr, arith}
use Rattle.std.proofs.lemmas.Bool.{cases_lt}
use Rattle.std.proofs.lemmas.Option.{slice_get_within, get_or_from_slice_get}
use Rattle.lattice_core.specs.declared.ray.Ray.{Ray}
use Rattle.surd_order.specs.declared.position.Pos.TheVariants.{Frac}
use Rattle.surd_order.specs.Order.{IsPlace, Precedes}
use Rattle.surd_order.proofs.LawProofs.{places_have_one_spelling}
use Rattle.bool_weave.proofs.Cutting.{place_from}
use Rattle.shot_core.specs.Points.{LiesAt}
use Rattle.shot_core.specs.Regions.{Region, has_air}
use Rattle.shot_core.specs.SeenPoints.{SomeSolidHolds, IsSeenFirst}
use Rattle.tile_shot.specs.Reports.{HaveRisingPlaces}
use Rattle.view_laws.specs.PixelPoints.{PresentsFirst}
use Rattle.view_laws.proofs.Free.{free_between, free_before_both}
use Rattle.view_laws.proofs.Pixels.{same_some}
use Rattle.view_laws.proofs.Reports.{place_rises}

module _ (regions : List Region) (ray : Ray) (rising : HaveRisingPlaces regions) where
  listed_solid : (n : ℕ) (r s : Region) → slice_get regions n ≡ Some r → slice_get regions n ≡ Some s → has_air r.body ≡ false → has_air s.body ≡ false
  listed_solid n r s at at' solid = subst (λ (q : Region). has_air q.body ≡ false) (same_some r s (sym at ∙ at')) solid

  contains_at : (n : ℕ) (r : Region) → slice_get regions n ≡ Some r → Contains regions r
  contains_at n r at = (n, slice_get_within regions n r at, get_or_from_slice_get regions n r r at)

  solid_there : (s : PresentsFirst regions ray) (p q : ℤ) (lies : LiesAt regions ray p q s.lit.region) → has_air lies.region.body ≡ false
  solid_there s p q lies = listed_solid s.lit.region s.seen.region lies.region s.seen.there lies.there s.seen.solid

  solid_at : (s : PresentsFirst regions ray) (p q : ℤ) → LiesAt regions ray p q s.lit.region → SomeSolidHolds regions ray p q
  solid_at s p q lies = record {
    number = s.lit.region;
    region = lies.region;
    there = lies.there;
    solid = solid_there s p q lies;
    holds = lies.holds;
  }

  start_place : (s : PresentsFirst regions ray) → IsPlace s.lit.start
  start_place s = place_from s.lit.start s.start_spelled

  end_place : (s : PresentsFirst regions ray) → IsPlace s.lit.end
  end_place s = place_from s.lit.end s.end_spelled

  -- something holds where a region is presented
  pub not_nothing : PresentsFirst regions ray → ¬ (IsSeenFirst regions ray None)
  not_nothing s = λ none.
      let f = free_between regions ray s.lit.start s.lit.end (start_place s) (end_place s) s.seen.begun s.seen.not_ended s.seen.forward in
      none f.p f.q f.on f.free (solid_at s f.p f.q (s.seen.behind f.p f.q f.on f.free f.after f.before))

  -- it begins at one place
  not_earlier : (s t : PresentsFirst regions ray) → ¬ (Precedes s.lit.start t.lit.start)
  not_earlier s t = λ early.
      let f = free_before_both regions ray s.lit.start s.lit.end t.lit.start (start_place s) (end_place s) (start_place t) s.seen.begun s.seen.not_ended s.seen.forward early in
      let x = f.point in
      t.seen.before x.p x.q x.on x.free f.before_other (solid_at s x.p x.q (s.seen.behind x.p x.q x.on x.free x.after x.before))

  pub same_start : (s t : PresentsFirst regions ray) → s.lit.start ≡ t.lit.start
  same_start s t = places_have_one_spelling s.lit.start t.lit.start s.start_spelled t.start_spelled (record { not_before = not_earlier s t; not_after = not_earlier t s })

  -- and is of one region
  wins_once : (p q : ℤ) (n m : ℕ) (a : LiesAt regions ray p q n) (b : LiesAt regions ray p q m) → has_air a.region.body ≡ false → has_air b.region.body ≡ false → ¬ (n < m)
  wins_once p q n m a b solid solid' = λ lt.
      b.wins a.region (contains_at n a.region a.there) (inr (solid ∙ sym solid', place_rises regions n m a.region b.region rising a.there b.there lt)) a.holds

  lies_once : (p q : ℤ) (n m : ℕ) (a : LiesAt regions ray p q n) (b : LiesAt regions ray p q m) → has_air a.region.body ≡ false → has_air b.region.body ≡ false → n ≡ m
  lies_once p q n m a b solid solid' =
      elim (cases_lt n m) [
        | inl lt ↦ absurd (wins_once p q n m a b solid solid' lt)
        | inr ge ↦ elim (cases_lt m n) [ inl gt ↦ absurd (wins_once p q m n b a solid' solid gt) | inr le ↦ omega (arith, ge, le) ]
      ]

  same_listed : (s t : PresentsFirst regions ray) → s.lit.region ≡ t.lit.region
  same_listed s t =
      let f = free_before_both regions ray s.lit.start s.lit.end t.lit.end (start_place s) (end_place s) (end_place t) s.seen.begun s.seen.not_ended s.seen.forward
      (subst (λ y. Precedes y t.lit.end) (sym (same_start s t)) t.seen.forward) in
      let x = f.point in
      let a = s.seen.behind x.p x.q x.on x.free x.after x.before in
      let b = t.seen.behind x.p x.q x.on x.free (subst (λ y. Precedes y (Frac x.p x.q)) (same_start s t) x.after) f.before_other in
      lies_once x.p x.q s.lit.region t.lit.region a b (solid_there s x.p x.q a) (solid_there t x.p x.q b)

  pub same_region : (s t : PresentsFirst regions ray) → s.seen.region ≡ t.seen.region
  same_region s t = same_some s.seen.region t.seen.region (sym s.seen.there ∙ ap (slice_get regions) (same_listed s t) ∙ t.seen.there)
