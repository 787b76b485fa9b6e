use Rattle.std.proofs.Common.{FitsSigned, w64, All, Option, subst}
use Rattle.std.specs.Option.{ForSome}
use Rattle.plane_geom.specs.declared.plane.Plane.{Plane}
use Rattle.plane_geom.specs.Planes.{IsWorldPlane}
use Rattle.solid_set.specs.declared.surface.Surface.{Surface}
use Rattle.solid_set.specs.Segments.{sides_of}
use Rattle.std.proofs.lemmas.Int.{to_z-of_z}
use Rattle.solid_set.specs.Surfaces.{IsBallSize}
use Rattle.solid_set.proofs.Made.{radius_fits, faces_sized}
use Rattle.solid_set.proofs.placed.Placed.cut.Goals as goal

pub segment_of_ball-requires-clause-size : goal.segment_of_ball-requires-clause-size
segment_of_ball-requires-clause-size c =
    let sized : IsBallSize c.in-Ball.centre c.in-Ball.radius = c.args.self.now.ball_size c.in-Ball.centre c.in-Ball.radius c.in-Ball.is in
    let fr : FitsSigned w64 c.in-Ball.radius = radius_fits c.in-Ball.radius sized.radius_size in
    simp to_z-of_z sized

pub segment_of_cylinder-requires-clause-faces : goal.segment_of_cylinder-requires-clause-faces
segment_of_cylinder-requires-clause-faces c =
    faces_sized c.in-Cylinder.faces (subst (λ (s : Surface). All (λ (side : Option Plane). ForSome side IsWorldPlane) (sides_of s)) c.in-Cylinder.is c.args.self.now.size)
    (c.args.self.now.side_size c.in-Cylinder.faces c.in-Cylinder.is)
