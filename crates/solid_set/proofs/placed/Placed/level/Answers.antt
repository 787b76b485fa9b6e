use Rattle.std.proofs.Common.{subst, FitsSigned, w64, All, Option}
use Rattle.std.specs.Option.{ForSome}
use Rattle.plane_geom.specs.declared.plane.Plane.{Plane}
use Rattle.plane_geom.specs.Planes.{IsWorldPlane}
use Rattle.solid_set.specs.Segments.{sides_of}
use Rattle.std.proofs.lemmas.Int.{to_z-of_z}
use Rattle.prim_sphere.specs.Spheres.{IsRadius}
use Rattle.solid_set.specs.declared.surface.Surface.{Surface}
use Rattle.solid_set.specs.Levels.{IsFaceOn}
use Rattle.solid_set.specs.Surfaces.{IsBallSize}
use Rattle.solid_set.proofs.Made.{radius_fits, faces_sized}
use Rattle.solid_set.proofs.SurfaceLaws.{steep_sides, steep_half, steep_base, steep_top}
use Rattle.solid_set.proofs.placed.Placed.level.Goals as goal

pub level_at-requires-clause-crossed : goal.level_at-requires-clause-crossed
level_at-requires-clause-crossed c =
    steep_sides c.in-Planes.sides c.args.ray.now c.args.face c.if-face-eq0.false (subst (λ (s : Surface). IsFaceOn s c.args.ray.now c.args.face) c.in-Planes.is c.requires.face)

pub level_at-requires-in-HalfSpace-clause-crossed : goal.level_at-requires-in-HalfSpace-clause-crossed
level_at-requires-in-HalfSpace-clause-crossed c =
    steep_half c.in-HalfSpace.plane c.args.ray.now c.args.face c.if-face-eq0.false (subst (λ (s : Surface). IsFaceOn s c.args.ray.now c.args.face) c.in-HalfSpace.is c.requires.face)

pub level_at-requires-in-Ball-clause-centre : goal.level_at-requires-in-Ball-clause-centre
level_at-requires-in-Ball-clause-centre c =
    let sized : IsBallSize c.in-Ball.centre c.in-Ball.radius = c.args.self.now.ball_size c.in-Ball.centre c.in-Ball.radius c.in-Ball.is in
    sized.centre_size

pub level_at-requires-in-Ball-clause-radius : goal.level_at-requires-in-Ball-clause-radius
level_at-requires-in-Ball-clause-radius c =
    let sized : IsBallSize c.in-Ball.centre c.in-Ball.radius = c.args.self.now.ball_size c.in-Ball.centre c.in-Ball.radius c.in-Ball.is in
    let size : IsRadius c.in-Ball.radius = sized.radius_size in
    let fr : FitsSigned w64 c.in-Ball.radius = radius_fits c.in-Ball.radius size in
    simp to_z-of_z size

pub level_at-requires-in-Cylinder-clause-faces : goal.level_at-requires-in-Cylinder-clause-faces
level_at-requires-in-Cylinder-clause-faces c =
    faces_sized c.in-Cylinder.faces (subst (λ (s : Surface). All (λ (side : Option Plane). ForSome side IsWorldPlane) (sides_of s)) c.in-Cylinder.is c.args.self.now.size)
    (c.args.self.now.side_size c.in-Cylinder.faces c.in-Cylinder.is)

pub level_at-requires-in-Cylinder-clause-base_crossed : goal.level_at-requires-in-Cylinder-clause-base_crossed
level_at-requires-in-Cylinder-clause-base_crossed c =
    steep_base c.in-Cylinder.faces c.args.ray.now c.args.face (subst (λ (s : Surface). IsFaceOn s c.args.ray.now c.args.face) c.in-Cylinder.is c.requires.face)

pub level_at-requires-in-Cylinder-clause-top_crossed : goal.level_at-requires-in-Cylinder-clause-top_crossed
level_at-requires-in-Cylinder-clause-top_crossed c =
    steep_top c.in-Cylinder.faces c.args.ray.now c.args.face (subst (λ (s : Surface). IsFaceOn s c.args.ray.now c.args.face) c.in-Cylinder.is c.requires.face)
