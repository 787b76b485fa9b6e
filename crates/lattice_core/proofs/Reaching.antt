-- The box of a ray has the ray's points and no others.
use Rattle.std.proofs.Common.{◌≡◌, ◌↔◌, ℤ, pos, negsuc, ◌+ℤ◌, ◌-ℤ◌, ◌*ℤ◌, ◌<ℤ◌, ◌≤ℤ◌, ap, subst, sym, arith}
use Rattle.std.proofs.lemmas.Int.{ints, clamps}
use Rattle.lattice_core.specs.declared.vector.V3.{V3}
use Rattle.lattice_core.specs.declared.ray.Dir.{Dir}
use Rattle.lattice_core.specs.declared.ray.Dir.TheVariants.{PlusX, MinusX, PlusY, MinusY, PlusZ, MinusZ}
use Rattle.lattice_core.specs.declared.ray.Ray.{Ray}
use Rattle.lattice_core.specs.declared.limit.TheConstants.{FAR}
use Rattle.lattice_core.specs.declared.extent.Extent.{Extent}
use Rattle.lattice_core.specs.declared.boxes.Box3.TheVariants.{Span}
use Rattle.lattice_core.specs.Units.{unit_of}
use Rattle.lattice_core.specs.Rays.{IsOnRay}
use Rattle.lattice_core.specs.Boxes.{IsBetween, IsRayBox}
use Rattle.lattice_core.specs.Extents.{reach_low, reach_high, reach_extent}
use Rattle.lattice_core.specs.Spans.{reach_span}
use Rattle.lattice_core.proofs.Products.{add_mul}
use Rattle.lattice_core.proofs.Turning.{vector_same}

-- a coordinate of the points of a ray, by the step along its axis
abbrev Reaches : ℤ → ℤ → ℤ → ℤ → Type 0
Reaches o step x w = IsBetween (reach_extent o step) x w

abbrev IsCoordinate : ℤ → ℤ → ℤ → ℤ → ℤ → Type 0
IsCoordinate o step p x w = x ≡ (o *ℤ w) +ℤ (step *ℤ p)

stays : (o p x w : ℤ) → Reaches o (pos 0) x w ↔ IsCoordinate o (pos 0) p x w
stays o p x w =
    let a : reach_low o (pos 0) ≡ o = omega (arith, ints, clamps) in
    let b : reach_high o (pos 0) ≡ o = omega (arith, ints, clamps) in (
      λ h.
          let from : (o *ℤ w) ≤ℤ x = subst (λ (z : ℤ). (z *ℤ w) ≤ℤ x) a h.0 in
          let to : x ≤ℤ (o *ℤ w) = subst (λ (z : ℤ). x ≤ℤ (z *ℤ w)) b h.1 in
          omega (arith, ints, from, to),
      λ e. (
        subst (λ (z : ℤ). (z *ℤ w) ≤ℤ x) (sym a) (omega (arith, ints, e)),
        subst (λ (z : ℤ). x ≤ℤ (z *ℤ w)) (sym b) (omega (arith, ints, e)),
      ),
    )

rises : (o p x w : ℤ) → IsOnRay p w → IsCoordinate o (pos 1) p x w → Reaches o (pos 1) x w
rises o p x w on e =
    let a : reach_low o (pos 1) ≡ o = omega (arith, ints, clamps) in
    let b : reach_high o (pos 1) ≡ o +ℤ FAR = omega (arith, ints, clamps) in
    let wide : (o +ℤ FAR) *ℤ w ≡ (o *ℤ w) +ℤ (FAR *ℤ w) = add_mul o FAR w in (
      subst (λ (z : ℤ). (z *ℤ w) ≤ℤ x) (sym a) (omega (arith, ints, e, on.begun)),
      subst (λ (z : ℤ). x ≤ℤ (z *ℤ w)) (sym b) (omega (arith, ints, e, on.not_ended, wide)),
    )

rises_back : (o x w : ℤ) → pos 0 <ℤ w → Reaches o (pos 1) x w → IsOnRay (x -ℤ (o *ℤ w)) w × IsCoordinate o (pos 1) (x -ℤ (o *ℤ w)) x w
rises_back o x w some h =
    let a : reach_low o (pos 1) ≡ o = omega (arith, ints, clamps) in
    let b : reach_high o (pos 1) ≡ o +ℤ FAR = omega (arith, ints, clamps) in
    let wide : (o +ℤ FAR) *ℤ w ≡ (o *ℤ w) +ℤ (FAR *ℤ w) = add_mul o FAR w in
    let from : (o *ℤ w) ≤ℤ x = subst (λ (z : ℤ). (z *ℤ w) ≤ℤ x) a h.0 in
    let to : x ≤ℤ ((o +ℤ FAR) *ℤ w) = subst (λ (z : ℤ). x ≤ℤ (z *ℤ w)) b h.1 in (
      record { positive = some; begun = omega (arith, ints, from); not_ended = omega (arith, ints, to, wide) },
      omega (arith, ints),
    )

falls : (o p x w : ℤ) → IsOnRay p w → IsCoordinate o (negsuc 0) p x w → Reaches o (negsuc 0) x w
falls o p x w on e =
    let a : reach_low o (negsuc 0) ≡ o -ℤ FAR = omega (arith, ints, clamps) in
    let b : reach_high o (negsuc 0) ≡ o = omega (arith, ints, clamps) in
    let wide : (o +ℤ (pos 0 -ℤ FAR)) *ℤ w ≡ (o *ℤ w) +ℤ ((pos 0 -ℤ FAR) *ℤ w) = add_mul o (pos 0 -ℤ FAR) w in (
      subst (λ (z : ℤ). (z *ℤ w) ≤ℤ x) (sym a) (omega (arith, ints, e, on.not_ended, wide)),
      subst (λ (z : ℤ). x ≤ℤ (z *ℤ w)) (sym b) (omega (arith, ints, e, on.begun)),
    )

falls_back : (o x w : ℤ) → pos 0 <ℤ w → Reaches o (negsuc 0) x w → IsOnRay ((o *ℤ w) -ℤ x) w × IsCoordinate o (negsuc 0) ((o *ℤ w) -ℤ x) x w
falls_back o x w some h =
    let a : reach_low o (negsuc 0) ≡ o -ℤ FAR = omega (arith, ints, clamps) in
    let b : reach_high o (negsuc 0) ≡ o = omega (arith, ints, clamps) in
    let wide : (o +ℤ (pos 0 -ℤ FAR)) *ℤ w ≡ (o *ℤ w) +ℤ ((pos 0 -ℤ FAR) *ℤ w) = add_mul o (pos 0 -ℤ FAR) w in
    let from : ((o -ℤ FAR) *ℤ w) ≤ℤ x = subst (λ (z : ℤ). (z *ℤ w) ≤ℤ x) a h.0 in
    let to : x ≤ℤ (o *ℤ w) = subst (λ (z : ℤ). x ≤ℤ (z *ℤ w)) b h.1 in (
      record { positive = some; begun = omega (arith, ints, to); not_ended = omega (arith, ints, from, wide) },
      omega (arith, ints),
    )

reach_is_at : (o : V3) (d : Dir) → let ray : Ray = record { origin = o; dir = d } in IsRayBox (reach_span o (unit_of d)) ray
reach_is_at o PlusX = λ v w some. (
  λ h.
      let m = rises_back o.x v.x w some h.0 in
      let k : ℤ = v.x -ℤ (o.x *ℤ w) in
      record { p = k; on_ray = m.0; is = vector_same m.1 ((stays o.y k v.y w).0 h.1) ((stays o.z k v.z w).0 h.2) },
  λ r. (
    rises o.x r.p v.x w r.on_ray (ap (λ (u : V3). u.x) r.is),
    (stays o.y r.p v.y w).1 (ap (λ (u : V3). u.y) r.is),
    (stays o.z r.p v.z w).1 (ap (λ (u : V3). u.z) r.is),
  ),
)
reach_is_at o MinusX = λ v w some. (
  λ h.
      let m = falls_back o.x v.x w some h.0 in
      let k : ℤ = (o.x *ℤ w) -ℤ v.x in
      record { p = k; on_ray = m.0; is = vector_same m.1 ((stays o.y k v.y w).0 h.1) ((stays o.z k v.z w).0 h.2) },
  λ r. (
    falls o.x r.p v.x w r.on_ray (ap (λ (u : V3). u.x) r.is),
    (stays o.y r.p v.y w).1 (ap (λ (u : V3). u.y) r.is),
    (stays o.z r.p v.z w).1 (ap (λ (u : V3). u.z) r.is),
  ),
)
reach_is_at o PlusY = λ v w some. (
  λ h.
      let m = rises_back o.y v.y w some h.1 in
      let k : ℤ = v.y -ℤ (o.y *ℤ w) in
      record { p = k; on_ray = m.0; is = vector_same ((stays o.x k v.x w).0 h.0) m.1 ((stays o.z k v.z w).0 h.2) },
  λ r. (
    (stays o.x r.p v.x w).1 (ap (λ (u : V3). u.x) r.is),
    rises o.y r.p v.y w r.on_ray (ap (λ (u : V3). u.y) r.is),
    (stays o.z r.p v.z w).1 (ap (λ (u : V3). u.z) r.is),
  ),
)
reach_is_at o MinusY = λ v w some. (
  λ h.
      let m = falls_back o.y v.y w some h.1 in
      let k : ℤ = (o.y *ℤ w) -ℤ v.y in
      record { p = k; on_ray = m.0; is = vector_same ((stays o.x k v.x w).0 h.0) m.1 ((stays o.z k v.z w).0 h.2) },
  λ r. (
    (stays o.x r.p v.x w).1 (ap (λ (u : V3). u.x) r.is),
    falls o.y r.p v.y w r.on_ray (ap (λ (u : V3). u.y) r.is),
    (stays o.z r.p v.z w).1 (ap (λ (u : V3). u.z) r.is),
  ),
)
reach_is_at o PlusZ = λ v w some. (
  λ h.
      let m = rises_back o.z v.z w some h.2 in
      let k : ℤ = v.z -ℤ (o.z *ℤ w) in
      record { p = k; on_ray = m.0; is = vector_same ((stays o.x k v.x w).0 h.0) ((stays o.y k v.y w).0 h.1) m.1 },
  λ r. (
    (stays o.x r.p v.x w).1 (ap (λ (u : V3). u.x) r.is),
    (stays o.y r.p v.y w).1 (ap (λ (u : V3). u.y) r.is),
    rises o.z r.p v.z w r.on_ray (ap (λ (u : V3). u.z) r.is),
  ),
)
reach_is_at o MinusZ = λ v w some. (
  λ h.
      let m = falls_back o.z v.z w some h.2 in
      let k : ℤ = (o.z *ℤ w) -ℤ v.z in
      record { p = k; on_ray = m.0; is = vector_same ((stays o.x k v.x w).0 h.0) ((stays o.y k v.y w).0 h.1) m.1 },
  λ r. (
    (stays o.x r.p v.x w).1 (ap (λ (u : V3). u.x) r.is),
    (stays o.y r.p v.y w).1 (ap (λ (u : V3). u.y) r.is),
    falls o.z r.p v.z w r.on_ray (ap (λ (u : V3). u.z) r.is),
  ),
)

pub reach_is : (ray : Ray) → IsRayBox (reach_span ray.origin (unit_of ray.dir)) ray
reach_is ray = reach_is_at ray.origin ray.dir

pub spans_same : {x y z x' y' z' : Extent} → x ≡ x' → y ≡ y' → z ≡ z' → Span x y z ≡ Span x' y' z'
spans_same p q r = cc
