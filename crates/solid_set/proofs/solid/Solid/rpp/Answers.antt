use Rattle.std.proofs.Common.{subst, List}
use Rattle.lattice_core.specs.declared.vector.V3.{V3}
use Rattle.prim_arb8.specs.Rpps.{IsMadeOf}
use Rattle.solid_set.proofs.Made.{arb8_made, arb8_fault, rpp_same, fitted}
use Rattle.solid_set.proofs.solid.Solid.rpp.Goals as goal

pub returns-in-Ok : goal.returns-in-Ok
returns-in-Ok c =
    let same = rpp_same (fitted _ c.ranges.xmin) (fitted _ c.ranges.xmax) (fitted _ c.ranges.ymin) (fitted _ c.ranges.ymax) (fitted _ c.ranges.zmin) (fitted _ c.ranges.zmax) in
    arb8_made c.of_extents.result c.in-Ok.arb8 _ (subst (λ (v : List V3). IsMadeOf c.of_extents.result v) same c.of_extents.ensures) c.in-Ok.is

pub returns-in-Err : goal.returns-in-Err
returns-in-Err c =
    let same = rpp_same (fitted _ c.ranges.xmin) (fitted _ c.ranges.xmax) (fitted _ c.ranges.ymin) (fitted _ c.ranges.ymax) (fitted _ c.ranges.zmin) (fitted _ c.ranges.zmax) in
    arb8_fault c.of_extents.result c.in-Err.fault _ (subst (λ (v : List V3). IsMadeOf c.of_extents.result v) same c.of_extents.ensures) c.in-Err.is
