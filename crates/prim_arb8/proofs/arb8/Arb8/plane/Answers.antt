use Rattle.std.proofs.Common.{◌∙◌, ap, subst, sym, List, Option}
use Rattle.lattice_core.specs.declared.vector.V3.{V3}
use Rattle.plane_geom.specs.declared.plane.Plane.{Plane}
use Rattle.prim_arb8.specs.Solids.{EightVertices}
use Rattle.prim_arb8.specs.Faces.{plane_at}
use Rattle.prim_arb8.specs.Laws.{IsFaceLaw}
use Rattle.prim_arb8.proofs.Sides.{face_law}
use Rattle.prim_arb8.proofs.arb8.Arb8.plane.Goals as goal

pub returns-clause-value : goal.returns-clause-value
returns-clause-value c = c.plane_of.ensures.value ∙ ap (λ (solid : EightVertices). plane_at solid.vertices c.args.face) c.self.view_is

pub returns-clause-law : goal.returns-clause-law
returns-clause-law c =
    let law : IsFaceLaw c.self.inside.vertices c.args.face (plane_at c.self.inside.vertices c.args.face) =
    face_law c.self.inside.vertices c.args.face c.self.invariant.eight c.self.invariant.sound c.requires.0 c.requires.1 in
    subst (λ (v : List V3). IsFaceLaw v c.args.face c.plane_of.result) (ap (λ (solid : EightVertices). solid.vertices) c.self.view_is)
    (subst (λ (o : Option Plane). IsFaceLaw c.self.inside.vertices c.args.face o) (sym c.plane_of.ensures.value) law)
