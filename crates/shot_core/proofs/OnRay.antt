-- The ends of segments and the cuts of a ray lie on the ray, each in its one spelling.
use Rattle.std.proofs.Common.{◌≡◌, ◌<◌, ℕ, pos, ◌*ℤ◌, List, length, Some, subst, refl, inl, inr, arith}
use Rattle.std.specs.Int.RustNames.{unsigned_abs}
use Rattle.std.proofs.lemmas.Int.{ints, by_lt_z}
use Rattle.std.proofs.lemmas.Map.Keys.{Less-from_sorted}
use Rattle.lattice_core.specs.declared.limit.TheConstants.{FAR}
use Rattle.lattice_core.specs.declared.ray.Ray.{Ray}
use Rattle.lattice_core.specs.Rays.{IsOnRay}
use Rattle.surd_order.specs.declared.position.Pos.{Pos}
use Rattle.surd_order.specs.declared.position.Pos.TheVariants.{Frac}
use Rattle.surd_order.specs.declared.position.Seg.{Seg}
use Rattle.surd_order.specs.Order.{Precedes, IsPlace}
use Rattle.surd_order.specs.PlaceOrder.{place_cmp}
use Rattle.surd_order.specs.Spelling.{IsSpelled}
use Rattle.surd_order.proofs.OrderLaws.{between, transitive}
use Rattle.surd_order.proofs.SquareLaws.{gcd_one}
use Rattle.solid_set.specs.declared.surface.Surface.{Surface}
use Rattle.solid_set.specs.Segments.{segment_of}
use Rattle.solid_set.proofs.InsideLaws.{not_preceding}
use Rattle.solid_set.proofs.SurfaceLaws.{segment_spelled}
use Rattle.bool_weave.specs.declared.woven.Woven.{Woven}
use Rattle.bool_weave.specs.Cuts.{ray_start, ray_end, places_of, cuts_of}
use Rattle.bool_weave.proofs.Sorted.{Has, has_at}
use Rattle.bool_weave.proofs.Cutting.{place_from, tied_same, end_of_some, from_order, to_order, cuts_sorted, precedes_from}
use Rattle.overlap_list.specs.Hits.{cut_at}
use Rattle.shot_core.specs.Regions.{Instance}
use Rattle.solid_set.proofs.Between.{IsBetween}
use Rattle.shot_core.proofs.Landing.{segment_lies}
use Rattle.shot_core.proofs.Weaving.{IsOfInstance}

-- a place on the ray, in its one spelling
pub record IsRayPlace (x : Pos) : Type 0 where
  pub spelled : IsSpelled x
  pub begun : ¬ (Precedes x ray_start)
  pub not_ended : ¬ (Precedes ray_end x)

pub place_is : (x : Pos) → IsRayPlace x → IsPlace x
place_is x h = place_from x h.spelled

-- a segment from one such place to a later one
pub record IsRaySegment (seg : Seg) : Type 0 where
  pub ordered : Precedes seg.start seg.end
  pub start : IsRayPlace seg.start
  pub end : IsRayPlace seg.end

pub segment_on_ray : (surface : Surface) (ray : Ray) (seg : Seg) → segment_of surface ray ≡ Some seg → IsRaySegment seg
segment_on_ray surface ray seg is =
    let lies = segment_lies surface ray seg is in
    let ends = segment_spelled surface ray seg is in
    let start = place_from seg.start ends.0 in
    let end = place_from seg.end ends.1 in
    record {
      ordered = lies.ordered;
      start = record { spelled = ends.0; begun = lies.begun; not_ended = λ late. lies.not_ended (transitive ray_end seg.start seg.end start end late lies.ordered) };
      end = record { spelled = ends.1; begun = λ early. lies.begun (transitive seg.start seg.end ray_start end (omega (arith, ints)) lies.ordered early); not_ended = lies.not_ended };
    }

-- a fraction between two such places lies on the ray
pub between_on_ray : (x y : Pos) → IsRayPlace x → IsRayPlace y → (f : IsBetween x y) → IsOnRay f.p f.q
between_on_ray x y from to f = record {
  positive = f.positive;
  begun = by_lt_z f.p (pos 0)
      (λ lt. elim (between x ray_start (Frac f.p f.q) f.after) [
        | inl early ↦ absurd (from.begun early)
        | inr late ↦ absurd (not_preceding (pos 0) (pos 1) f.p f.q (omega (arith, ints)) f.positive (omega (arith, ints, lt)) late)
      ])
      (λ le. le);
  not_ended = by_lt_z (FAR *ℤ f.q) f.p
      (λ lt. elim (between (Frac f.p f.q) ray_end y f.before) [
        | inl early ↦ absurd (not_preceding f.p f.q FAR (pos 1) f.positive (omega (arith, ints)) (omega (arith, ints, lt)) early)
        | inr late ↦ absurd (to.not_ended late)
      ])
      (λ le. le);
}

-- each of what is woven is the segment of the instance of its number
abbrev pub AreSegmentsOf : Ray → List Instance → List Woven → Type 0
AreSegmentsOf ray xs woven = (w : Woven) → Has woven w → IsOfInstance ray 0 xs w

ray_start_is : IsRayPlace ray_start
ray_start_is = record {
  spelled = (omega (arith, ints), gcd_one 0);
  begun = not_preceding (pos 0) (pos 1) (pos 0) (pos 1) (omega (arith, ints)) (omega (arith, ints)) (omega (arith, ints));
  not_ended = not_preceding FAR (pos 1) (pos 0) (pos 1) (omega (arith, ints)) (omega (arith, ints)) (omega (arith, ints));
}

ray_end_is : IsRayPlace ray_end
ray_end_is = record {
  spelled = (omega (arith, ints), gcd_one (unsigned_abs FAR));
  begun = not_preceding FAR (pos 1) (pos 0) (pos 1) (omega (arith, ints)) (omega (arith, ints)) (omega (arith, ints));
  not_ended = not_preceding FAR (pos 1) FAR (pos 1) (omega (arith, ints)) (omega (arith, ints)) (omega (arith, ints));
}

module _ (ray : Ray) (xs : List Instance) (woven : List Woven) (of : AreSegmentsOf ray xs woven) where
  pub woven_on_ray : (w : Woven) → Has woven w → IsRaySegment w.seg
  woven_on_ray w there = let i = of w there in segment_on_ray i.one.surface ray w.seg i.segment

  pub place_on_ray : (x : Pos) → Has (places_of woven) x → IsRayPlace x
  place_on_ray x (inl e) = subst IsRayPlace e ray_start_is
  place_on_ray x (inr (inl e)) = subst IsRayPlace e ray_end_is
  place_on_ray x (inr (inr h)) =
      let w = end_of_some woven x h in
      let seg = woven_on_ray w.0 w.1 in
      elim w.2 [ inl e ↦ subst IsRayPlace e seg.start | inr e ↦ subst IsRayPlace e seg.end ]

  pub cut_on_ray : (k : ℕ) → k < length (cuts_of woven) → IsRayPlace (cut_at woven k)
  cut_on_ray k lt = place_on_ray (cut_at woven k) (from_order (cut_at woven k) (places_of woven) (has_at (cuts_of woven) (cut_at woven k) ray_start k lt refl))

  pub cuts_rise : (i j : ℕ) → i < j → j < length (cuts_of woven) → Precedes (cut_at woven i) (cut_at woven j)
  cuts_rise i j lt within =
      precedes_from (cut_at woven i) (cut_at woven j) (cut_on_ray i (omega (arith, lt, within))).spelled (cut_on_ray j within).spelled
      (Less-from_sorted place_cmp (cuts_of woven) i j ray_start (cuts_sorted woven) lt within)

  pub place_is_cut : (x : Pos) → Has (places_of woven) x → Has (cuts_of woven) x
  place_is_cut x h =
      to_order x (places_of woven) (λ y z p q e. tied_same y z (place_on_ray y p).spelled (place_on_ray z q).spelled e) h
