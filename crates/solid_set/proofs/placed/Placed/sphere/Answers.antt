use Rattle.std.proofs.Common.{◌≡◌, ◌∙◌, ap, ℤ, sym, subst, refl, FitsSigned, w64, arith, lit<}
use Rattle.std.proofs.lemmas.Int.{to_z-of_z, ints}
use mir.Val.{to_z, of_z}
use Rattle.lattice_core.specs.declared.vector.V3.{V3}
use Rattle.lattice_core.specs.Limits.{IsAtMost}
use Rattle.lattice_core.specs.Placements.{placed}
use Rattle.plane_geom.proofs.Sizes.{fits64}
use Rattle.prim_sphere.specs.Spheres.{box_of, HoldsPointsOf, IsBall}
use Rattle.solid_set.specs.declared.solid.Solid.TheVariants as solids
use Rattle.solid_set.specs.declared.surface.Surface.TheVariants.{Ball}
use Rattle.solid_set.specs.Surfaces.{IsBallSize}
use Rattle.solid_set.proofs.Made.{ball_sized, no_side, no_side_ball}
use Rattle.solid_set.proofs.placed.Placed.sphere.Goals as goal
use Rattle.lattice_core.specs.declared.limit.TheConstants.{COORD}

centre_is : (c : goal.After-bounds_at) → c.placed-centre.result ≡ placed c.args.by.now c.args.sphere.now.centre
centre_is c = c.placed-centre.ensures.value

radius_back : (c : goal.After-bounds_at) → to_z w64 (of_z w64 c.radius-radius.result) ≡ c.radius-radius.result
radius_back c =
    let size : IsAtMost COORD c.radius-radius.result = (omega (arith, ints, c.radius-radius.ensures.size.some), c.radius-radius.ensures.size.size) in
    let fr : FitsSigned w64 c.radius-radius.result = fits64 COORD c.radius-radius.result (lit< tt) size in
    simp to_z-of_z refl

radius_is : (c : goal.After-bounds_at) → to_z w64 (of_z w64 c.radius-radius.result) ≡ c.args.sphere.now.radius
radius_is c = radius_back c ∙ c.radius-radius.ensures.value

box_is : (c : goal.After-bounds_at) → c.bounds_at.result ≡ box_of (placed c.args.by.now c.args.sphere.now.centre) c.args.sphere.now.radius
box_is c =
    c.bounds_at.ensures.value
    ∙ ap (λ (z : ℤ). box_of c.placed-centre.result z) (radius_is c)
    ∙ ap (λ (v : V3). box_of v c.args.sphere.now.radius) (centre_is c)

lawful_is : (c : goal.After-bounds_at) → IsBall c.args.sphere.now.centre c.args.sphere.now.radius
lawful_is c = c.placed-centre.ensures.lawful

pub invariant_of-result : goal.invariant_of-result
invariant_of-result c =
    let sized : IsBallSize c.placed-centre.result (to_z w64 (of_z w64 c.radius-radius.result)) =
    subst (λ (z : ℤ). IsBallSize c.placed-centre.result z) (sym (radius_back c))
    (record { centre_size = c.placed-centre.ensures.size; radius_size = c.radius-radius.ensures.size }) in
    record {
      size = no_side c.placed-centre.result c.radius-radius.result;
      ball_size = ball_sized c.placed-centre.result (to_z w64 (of_z w64 c.radius-radius.result)) sized;
      side_size = no_side_ball c.placed-centre.result (to_z w64 (of_z w64 c.radius-radius.result));
      made = ∣ (record {
        solid = solids.Sphere c.args.sphere.now;
        by = c.args.by.now;
        lawful = lawful_is c;
        near = c.requires;
        surface_is = ap (λ (z : ℤ). Ball c.placed-centre.result z) (radius_is c) ∙ ap (λ (v : V3). Ball v c.args.sphere.now.radius) (centre_is c);
        bounds_is = box_is c;
      }) ∣₁;
    }

pub returns-clause-bounds : goal.returns-clause-bounds
returns-clause-bounds c =
    let size : IsAtMost COORD c.radius-radius.result = (omega (arith, ints, c.radius-radius.ensures.size.some), c.radius-radius.ensures.size.size) in
    let fr : FitsSigned w64 c.radius-radius.result = fits64 COORD c.radius-radius.result (lit< tt) size in
    simp to_z-of_z at c.bounds_at.ensures.value
    ∙ ap (λ (z : ℤ). box_of c.placed-centre.result z) c.radius-radius.ensures.value
    ∙ ap (λ (v : V3). box_of v c.args.sphere.now.radius) (c.placed-centre.ensures.value)

pub returns-clause-holds : goal.returns-clause-holds
returns-clause-holds c =
    let size : IsAtMost COORD c.radius-radius.result = (omega (arith, ints, c.radius-radius.ensures.size.some), c.radius-radius.ensures.size.size) in
    let fr : FitsSigned w64 c.radius-radius.result = fits64 COORD c.radius-radius.result (lit< tt) size in
    let held = simp to_z-of_z at c.bounds_at.ensures.holds in
    subst (λ (v : V3). HoldsPointsOf v c.args.sphere.now.radius c.bounds_at.result) (c.placed-centre.ensures.value)
    (subst (λ (z : ℤ). HoldsPointsOf c.placed-centre.result z c.bounds_at.result) c.radius-radius.ensures.value held)
