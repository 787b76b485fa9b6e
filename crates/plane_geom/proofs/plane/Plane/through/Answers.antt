use Rattle.std.proofs.Common.{ℤ, ap, ◌≡◌, FitsSigned, pos, sym, ◌∙◌, subst, refl, Some, lit<, ◌*ℤ◌}
use Rattle.std.proofs.lemmas.Int.{to_z-of_z}
use mir.Syntax.{w128}
use Rattle.lattice_core.specs.Limits.{IsAtMost}
use Rattle.plane_geom.proofs.Sizes.{dot_size, fits128}
use Rattle.plane_geom.proofs.Cross.{through_is, normal_is, through_none, through_some}
use Rattle.lattice_core.specs.declared.vector.V3.{V3}
use Rattle.plane_geom.specs.declared.plane.Plane.{Plane}
use Rattle.plane_geom.specs.Planes.{normal_of, plane_of}
use Rattle.std.proofs.lemmas.Bool.{false≢true}
use Rattle.lattice_core.specs.declared.limit.TheConstants.{COORD}
use Rattle.plane_geom.specs.declared.limit.TheConstants.{NORMAL}
use Rattle.plane_geom.proofs.plane.Plane.through.Goals as goal

-- the greatest size of the dot product
abbrev dot_limit : ℤ
dot_limit = pos 3 *ℤ (NORMAL *ℤ COORD)

pub returns-then-is_zero-clause-none : goal.returns-then-is_zero-clause-none
returns-then-is_zero-clause-none c =
    let n : c.cross-n.result ≡ normal_of c.args.a c.args.b c.args.c =
    normal_is c.cross-n.result c.from_to.result c.from_to-2.result c.args.a c.args.b c.args.c c.cross-n.ensures.value c.from_to.ensures.value c.from_to-2.ensures.value in
    (λ t. sym n ∙ c.if-is_zero.ensures.0 refl, λ line. refl)

pub returns-else-is_zero-clause-none : goal.returns-else-is_zero-clause-none
returns-else-is_zero-clause-none c =
    let n : c.cross-n.result ≡ normal_of c.args.a c.args.b c.args.c =
    normal_is c.cross-n.result c.from_to.result c.from_to-2.result c.args.a c.args.b c.args.c c.cross-n.ensures.value c.from_to.ensures.value c.from_to-2.ensures.value in
    (λ t. absurd (false≢true (sym t)), λ line. absurd (false≢true (c.if-is_zero.ensures.1 (n ∙ line))))

pub returns-else-is_zero-clause-plane : goal.returns-else-is_zero-clause-plane
returns-else-is_zero-clause-plane c =
    let kp : IsAtMost dot_limit c.dot.result = subst (IsAtMost dot_limit) (sym c.dot.ensures) (dot_size NORMAL COORD c.cross-n.result c.args.a c.cross-n.ensures.size c.requires.first) in
    let fk : FitsSigned w128 c.dot.result = fits128 dot_limit c.dot.result (lit< tt) kp in
    let plane : Plane = record { n = c.cross-n.result; d = c.dot.result } in
    simp to_z-of_z (through_is plane c.args.a c.args.b c.args.c (normal_is c.cross-n.result c.from_to.result c.from_to-2.result c.args.a c.args.b c.args.c c.cross-n.ensures.value c.from_to.ensures.value c.from_to-2.ensures.value) c.dot.ensures)

pub returns-else-is_zero-clause-size : goal.returns-else-is_zero-clause-size
returns-else-is_zero-clause-size c =
    let kp : IsAtMost dot_limit c.dot.result = subst (IsAtMost dot_limit) (sym c.dot.ensures) (dot_size NORMAL COORD c.cross-n.result c.args.a c.cross-n.ensures.size c.requires.first) in
    let fk : FitsSigned w128 c.dot.result = fits128 dot_limit c.dot.result (lit< tt) kp in
    record { normal = c.cross-n.ensures.size; offset = simp to_z-of_z kp }

pub returns-then-is_zero-clause-value : goal.returns-then-is_zero-clause-value
returns-then-is_zero-clause-value c =
    let n : c.cross-n.result ≡ normal_of c.args.a c.args.b c.args.c = normal_is c.cross-n.result c.from_to.result c.from_to-2.result c.args.a c.args.b c.args.c c.cross-n.ensures.value c.from_to.ensures.value c.from_to-2.ensures.value in
    through_none (normal_of c.args.a c.args.b c.args.c) c.args.a (sym n ∙ c.if-is_zero.ensures.0 refl)

pub returns-else-is_zero-clause-value : goal.returns-else-is_zero-clause-value
returns-else-is_zero-clause-value c =
    let n : c.cross-n.result ≡ normal_of c.args.a c.args.b c.args.c = normal_is c.cross-n.result c.from_to.result c.from_to-2.result c.args.a c.args.b c.args.c c.cross-n.ensures.value c.from_to.ensures.value c.from_to-2.ensures.value in
    let kp : IsAtMost dot_limit c.dot.result = subst (IsAtMost dot_limit) (sym c.dot.ensures) (dot_size NORMAL COORD c.cross-n.result c.args.a c.cross-n.ensures.size c.requires.first) in
    let fk : FitsSigned w128 c.dot.result = fits128 dot_limit c.dot.result (lit< tt) kp in
    let some : Some (plane_of c.cross-n.result c.args.a) ≡ Some (plane_of (normal_of c.args.a c.args.b c.args.c) c.args.a) = ap (λ (m : V3). Some (plane_of m c.args.a)) n in
    let same : Some (let p : Plane = record { n = c.cross-n.result; d = c.dot.result } in p) ≡ Some (plane_of c.cross-n.result c.args.a) = ap (λ (x : ℤ). Some (let p : Plane = record { n = c.cross-n.result; d = x } in p)) c.dot.ensures in
    simp to_z-of_z (same ∙ some ∙ through_some (normal_of c.args.a c.args.b c.args.c) c.args.a (λ e. false≢true (c.if-is_zero.ensures.1 (n ∙ e))))
