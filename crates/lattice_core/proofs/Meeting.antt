-- A box meets a ray where it shares points with the ray's box.
use Rattle.std.proofs.Common.{◌≡◌, ◌↔◌, subst, sym, refl}
use Rattle.lattice_core.specs.declared.vector.V3.{V3}
use Rattle.lattice_core.specs.declared.ray.Ray.{Ray}
use Rattle.lattice_core.specs.declared.extent.Extent.{Extent}
use Rattle.lattice_core.specs.declared.boxes.Box3.{Box3}
use Rattle.lattice_core.specs.declared.boxes.Box3.TheVariants.{Span}
use Rattle.lattice_core.specs.Units.{unit_of}
use Rattle.lattice_core.specs.Rays.{scaled_point}
use Rattle.lattice_core.specs.Boxes.{HasPoint, MeetsRay}
use Rattle.lattice_core.specs.Spans.{IsNonEmpty, meet_span, reach_span}
use Rattle.lattice_core.proofs.Boxing as boxes
use Rattle.lattice_core.proofs.Reaching.{reach_is}

pub meets_is : (b : Box3) (ray : Ray) → IsNonEmpty (meet_span b (reach_span ray.origin (unit_of ray.dir))) ↔ MeetsRay b ray
meets_is b ray =
    let shares = boxes.meets_is b (reach_span ray.origin (unit_of ray.dir)) in
    let reach = reach_is ray in (
      λ h.
          let m = shares.0 h in
          let r = (reach m.v m.w m.positive).0 m.in_second in
          record { p = r.p; q = m.w; on_ray = r.on_ray; inside = subst (λ (v : V3). HasPoint b v m.w) r.is m.in_first },
      λ m. shares.1 (record {
        v = scaled_point ray m.p m.q;
        w = m.q;
        positive = m.on_ray.positive;
        in_first = m.inside;
        in_second = (reach (scaled_point ray m.p m.q) m.q m.on_ray.positive).1 (record { p = m.p; on_ray = m.on_ray; is = refl });
      }),
    )

-- the same, where the box and the step are known by equations
pub meets_with : (x y z : Extent) (ray : Ray) (b : Box3) (step : V3) → b ≡ Span x y z → step ≡ unit_of ray.dir
    → IsNonEmpty (meet_span (Span x y z) (reach_span ray.origin step)) ↔ MeetsRay b ray
meets_with x y z ray b step e f =
    let one = meets_is (Span x y z) ray in (
      λ h. subst (λ (c : Box3). MeetsRay c ray) (sym e) (one.0 (subst (λ (s : V3). IsNonEmpty (meet_span (Span x y z) (reach_span ray.origin s))) f h)),
      λ m. subst (λ (s : V3). IsNonEmpty (meet_span (Span x y z) (reach_span ray.origin s))) (sym f) (one.1 (subst (λ (c : Box3). MeetsRay c ray) e m)),
    )
