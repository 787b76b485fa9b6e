use Rattle.std.proofs.Common.{FitsSigned, w64, lit<}
use Rattle.std.proofs.lemmas.Int.{to_z-of_z}
use Rattle.lattice_core.specs.Limits.{IsAtMost}
use Rattle.plane_geom.proofs.Sizes.{fits64}
use Rattle.lattice_core.specs.declared.limit.TheConstants.{PLACED}
use Rattle.prim_arb8.proofs.bounds.placed_reach.Goals as goal

pub returns-clause-size : goal.returns-clause-size
returns-clause-size c =
    let size : IsAtMost PLACED c.along.result = c.along.ensures.size PLACED c.placed_point.ensures.size in
    let f : FitsSigned w64 c.along.result = fits64 PLACED c.along.result (lit< tt) size in
    simp to_z-of_z size
