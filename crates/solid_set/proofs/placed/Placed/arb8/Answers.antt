use Rattle.std.proofs.Common.{◌≡◌, ap, subst, ◌∙◌, List, Option}
use Rattle.lattice_core.specs.declared.vector.V3.{V3}
use Rattle.plane_geom.specs.declared.plane.Plane.{Plane}
use Rattle.prim_arb8.specs.Bounds.{box_of, HoldsVertices}
use Rattle.prim_arb8.specs.Solids.{IsArb8}
use Rattle.solid_set.specs.declared.solid.Solid.TheVariants as solids
use Rattle.solid_set.specs.declared.surface.Surface.TheVariants.{Planes}
use Rattle.solid_set.proofs.Made.{no_ball_planes, no_side_planes}
use Rattle.solid_set.proofs.placed.Placed.arb8.Goals as goal

box_is : (c : goal.After-bounds_at) → c.bounds_at.result ≡ box_of c.args.by.now c.args.arb8.now.vertices
box_is c = c.bounds_at.ensures.value ∙ ap (λ (v : List V3). box_of c.args.by.now v) c.vertices.ensures.value

pub invariant_of-result : goal.invariant_of-result
invariant_of-result c = record {
  size = c.placed.ensures.size;
  ball_size = no_ball_planes c.placed.result;
  side_size = no_side_planes c.placed.result;
  made = ∣ (record {
    solid = solids.Arb8 c.args.arb8.now;
    by = c.args.by.now;
    lawful = subst (λ (v : List V3). IsArb8 v) c.vertices.ensures.value c.vertices.ensures.lawful;
    near = c.requires;
    surface_is = ap (λ (sides : List (Option Plane)). Planes sides) c.placed.ensures.value;
    bounds_is = box_is c;
  }) ∣₁;
}

pub returns-clause-holds : goal.returns-clause-holds
returns-clause-holds c = subst (λ (v : List V3). HoldsVertices c.bounds_at.result c.args.by.now v) c.vertices.ensures.value c.bounds_at.ensures.holds
