use Rattle.std.proofs.Common.{All, List, [], ◌∷◌, Option, Some, None, subst, sym, arith}
use Rattle.std.specs.Option.{ForSome}
use Rattle.plane_geom.specs.declared.plane.Plane.{Plane}
use Rattle.plane_geom.specs.Planes.{IsWorldPlane}
use Rattle.solid_set.specs.declared.surface.Surface.{Surface}
use Rattle.solid_set.specs.Segments.{sides_of}
use Rattle.solid_set.proofs.Made.{padded_sides, none_sized}
use Rattle.solid_set.proofs.placed.Placed.planes.Goals as goal

abbrev AreSized : List (Option Plane) → Type 0
AreSized sides = All (λ (side : Option Plane). ForSome side IsWorldPlane) sides

pub returns-in-Cylinder-clause-size : goal.returns-in-Cylinder-clause-size
returns-in-Cylinder-clause-size c =
    let sized : AreSized (Some c.in-Cylinder.faces.base ∷ Some c.in-Cylinder.faces.top ∷ []) = subst (λ (s : Surface). AreSized (sides_of s)) c.in-Cylinder.is c.args.self.now.size in
    subst AreSized (sym c.first_two-in-Cylinder.ensures)
    (padded_sides (Some c.in-Cylinder.faces.base) (Some c.in-Cylinder.faces.top) (sized 0 None (omega arith)) (sized 1 None (omega arith)))

pub returns-in-HalfSpace-clause-size : goal.returns-in-HalfSpace-clause-size
returns-in-HalfSpace-clause-size c =
    let sized : AreSized (Some c.in-HalfSpace.plane ∷ []) = subst (λ (s : Surface). AreSized (sides_of s)) c.in-HalfSpace.is c.args.self.now.size in
    subst AreSized (sym c.first_two.ensures) (padded_sides (Some c.in-HalfSpace.plane) None (sized 0 None (omega arith)) none_sized)

pub returns-in-Ball-clause-size : goal.returns-in-Ball-clause-size
returns-in-Ball-clause-size c = subst AreSized (sym c.first_two-in-Ball.ensures) (padded_sides None None none_sized none_sized)
