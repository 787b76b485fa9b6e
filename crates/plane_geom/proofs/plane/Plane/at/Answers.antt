use Rattle.std.proofs.Common.{FitsSigned, ℤ, pos, arith, ap, sym, subst, lit<, ◌*ℤ◌}
use Rattle.std.proofs.lemmas.Int.{ints, to_z-of_z}
use mir.Syntax.{w128}
use Rattle.lattice_core.specs.Limits.{IsAtMost}
use Rattle.plane_geom.specs.declared.plane.Plane.{Plane}
use Rattle.plane_geom.proofs.Sizes.{dot_size, fits128, wider}
use Rattle.lattice_core.specs.declared.limit.TheConstants.{COORD, FAR}
use Rattle.plane_geom.specs.declared.limit.TheConstants.{NORMAL}
use Rattle.plane_geom.proofs.plane.Plane.at.Goals as goal

-- the greatest size of the dot product
abbrev dot_limit : ℤ
dot_limit = pos 3 *ℤ (pos 1 *ℤ (pos 2 *ℤ COORD))

pub dot-requires-clause-normal : goal.dot-requires-clause-normal
dot-requires-clause-normal c = wider (pos 1) NORMAL c.args.n (omega (arith, ints)) c.requires.normal

pub dot-requires-clause-point : goal.dot-requires-clause-point
dot-requires-clause-point c = wider (pos 2 *ℤ COORD) FAR c.args.p (omega (arith, ints)) c.requires.point

pub returns-clause-value : goal.returns-clause-value
returns-clause-value c =
    let kp : IsAtMost dot_limit c.dot.result = subst (IsAtMost dot_limit) (sym c.dot.ensures) (dot_size (pos 1) (pos 2 *ℤ COORD) c.args.n c.args.p c.requires.normal c.requires.point) in
    let fk : FitsSigned w128 c.dot.result = fits128 dot_limit c.dot.result (lit< tt) kp in
    simp to_z-of_z (ap (λ (d : ℤ). let plane : Plane = record { n = c.args.n; d = d } in plane) c.dot.ensures)

pub returns-clause-size : goal.returns-clause-size
returns-clause-size c =
    let kp : IsAtMost dot_limit c.dot.result = subst (IsAtMost dot_limit) (sym c.dot.ensures) (dot_size (pos 1) (pos 2 *ℤ COORD) c.args.n c.args.p c.requires.normal c.requires.point) in
    let fk : FitsSigned w128 c.dot.result = fits128 dot_limit c.dot.result (lit< tt) kp in
    record { normal = wider (pos 1) NORMAL c.args.n (omega (arith, ints)) c.requires.normal; offset = simp to_z-of_z (omega (arith, ints, kp.0), omega (arith, ints, kp.1)) }
