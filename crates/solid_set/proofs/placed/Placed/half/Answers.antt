use Rattle.std.proofs.Common.{ap}
use Rattle.plane_geom.specs.declared.plane.Plane.{Plane}
use Rattle.solid_set.specs.declared.solid.Solid.TheVariants as solids
use Rattle.solid_set.specs.declared.surface.Surface.TheVariants.{HalfSpace}
use Rattle.solid_set.proofs.Made.{one_side, no_ball_half, no_side_half}
use Rattle.solid_set.proofs.placed.Placed.half.Goals as goal

pub invariant_of-result : goal.invariant_of-result
invariant_of-result c = record {
  size = one_side c.placed.result c.placed.ensures.size;
  ball_size = no_ball_half c.placed.result;
  side_size = no_side_half c.placed.result;
  made = ∣ (record {
    solid = solids.Half c.args.half.now;
    by = c.args.by.now;
    lawful = c.placed.ensures.lawful;
    near = c.requires;
    surface_is = ap (λ (p : Plane). HalfSpace p) c.placed.ensures.value;
    bounds_is = c.bounds_at.ensures.value;
  }) ∣₁;
}
