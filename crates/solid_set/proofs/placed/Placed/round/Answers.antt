use Rattle.std.proofs.Common.{FitsSigned, w64}
use Rattle.std.proofs.lemmas.Int.{to_z-of_z}
use Rattle.prim_rcc.specs.Sides.{IsSideSized}
use Rattle.solid_set.specs.Surfaces.{IsBallSize}
use Rattle.solid_set.proofs.Made.{radius_fits, round_sized}
use Rattle.solid_set.proofs.placed.Placed.round.Goals as goal

pub returns-in-Ball-clause-size : goal.returns-in-Ball-clause-size
returns-in-Ball-clause-size c =
    let sized : IsBallSize c.in-Ball.centre c.in-Ball.radius = c.args.self.now.ball_size c.in-Ball.centre c.in-Ball.radius c.in-Ball.is in
    let fr : FitsSigned w64 c.in-Ball.radius = radius_fits c.in-Ball.radius sized.radius_size in
    simp to_z-of_z (round_sized _ sized.centre_size sized.radius_size)

pub returns-in-Cylinder-clause-size : goal.returns-in-Cylinder-clause-size
returns-in-Cylinder-clause-size c =
    let sized : IsSideSized c.in-Cylinder.faces.side = c.args.self.now.side_size c.in-Cylinder.faces c.in-Cylinder.is in
    let fr : FitsSigned w64 c.in-Cylinder.faces.side.radius = radius_fits c.in-Cylinder.faces.side.radius sized.radius_size in
    simp to_z-of_z (round_sized _ sized.centre_size sized.radius_size)
