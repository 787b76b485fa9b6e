use Rattle.std.proofs.Common.{ap}
use Rattle.prim_rcc.specs.declared.rcc.RccFaces.{RccFaces}
use Rattle.solid_set.specs.declared.solid.Solid.TheVariants as solids
use Rattle.solid_set.specs.declared.surface.Surface.TheVariants.{Cylinder}
use Rattle.solid_set.proofs.Made.{two_sides, no_ball_cylinder, cylinder_sized}
use Rattle.solid_set.proofs.placed.Placed.rcc.Goals as goal

pub invariant_of-result : goal.invariant_of-result
invariant_of-result c = record {
  size = two_sides c.placed.result.base c.placed.result.top c.placed.ensures.size.base_size c.placed.ensures.size.top_size;
  ball_size = no_ball_cylinder c.placed.result;
  side_size = cylinder_sized c.placed.result c.placed.ensures.size.side_size;
  made = ∣ (record {
    solid = solids.Rcc c.args.rcc.now;
    by = c.args.by.now;
    lawful = c.placed.ensures.lawful;
    near = c.requires;
    surface_is = ap (λ (f : RccFaces). Cylinder f) c.placed.ensures.value;
    bounds_is = c.bounds.ensures.value;
  }) ∣₁;
}
