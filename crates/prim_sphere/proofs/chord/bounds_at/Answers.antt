use Rattle.std.proofs.Common.{FitsSigned, w64, rules, arith, ◌+ℤ◌, ◌-ℤ◌, subst, sym}
use Rattle.std.proofs.lemmas.Int.{ints, to_z-of_z}
use Rattle.lattice_core.specs.Boxes.{IsTidy}
use Rattle.lattice_core.proofs.Reaching.{spans_same}
use Rattle.prim_sphere.specs.Spheres.{HoldsPointsOf}
use Rattle.prim_sphere.proofs.Bounds.{holds_points, box_tidy}
use Rattle.prim_sphere.proofs.chord.bounds_at.Goals as goal

pub returns-clause-value : goal.returns-clause-value
returns-clause-value c =
    let fx : FitsSigned w64 c.args.centre.x = search rules in
    let fy : FitsSigned w64 c.args.centre.y = search rules in
    let fz : FitsSigned w64 c.args.centre.z = search rules in
    let fr : FitsSigned w64 c.args.radius = c.ranges.radius in
    let xl : FitsSigned w64 (c.args.centre.x -ℤ c.args.radius) = omega (arith, ints) in
    let xh : FitsSigned w64 (c.args.centre.x +ℤ c.args.radius) = omega (arith, ints) in
    let yl : FitsSigned w64 (c.args.centre.y -ℤ c.args.radius) = omega (arith, ints) in
    let yh : FitsSigned w64 (c.args.centre.y +ℤ c.args.radius) = omega (arith, ints) in
    let zl : FitsSigned w64 (c.args.centre.z -ℤ c.args.radius) = omega (arith, ints) in
    let zh : FitsSigned w64 (c.args.centre.z +ℤ c.args.radius) = omega (arith, ints) in
    let x = simp to_z-of_z at c.between.ensures in
    let y = simp to_z-of_z at c.between-2.ensures in
    let z = simp to_z-of_z at c.between-3.ensures in
    spans_same x y z

pub returns-clause-holds : goal.returns-clause-holds
returns-clause-holds c = subst (HoldsPointsOf c.args.centre c.args.radius) (sym (returns-clause-value c)) (holds_points c.args.centre c.args.radius c.requires.radius)

pub returns-clause-tidy : goal.returns-clause-tidy
returns-clause-tidy c = subst IsTidy (sym (returns-clause-value c)) (box_tidy c.args.centre c.args.radius c.requires.radius)
