use Rattle.std.proofs.Common.{FitsSigned, arith, pos, ℤ, ◌-ℤ◌, sym, ap, subst, lit<, ◌+ℤ◌, ◌*ℤ◌}
use Rattle.std.proofs.lemmas.Int.{ints, to_z-of_z}
use mir.Syntax.{w128}
use Rattle.lattice_core.specs.Limits.{IsAtMost}
use Rattle.plane_geom.proofs.Sizes.{difference_size, dot_size, fits128}
use Rattle.lattice_core.specs.declared.limit.TheConstants.{WORLD}
use Rattle.plane_geom.specs.declared.limit.TheConstants.{NORMAL, WORLD_OFFSET}
use Rattle.oblique_ray.proofs.measure.gap_at.Goals as goal

-- the greatest size of the dot product
abbrev dot_limit : ℤ
dot_limit = pos 3 *ℤ (NORMAL *ℤ WORLD)

pub overflow_sub-result : goal.overflow_sub-result
overflow_sub-result c =
    let d = c.args.plane.now.d in
    let k = c.dot.result in
    let n = c.args.plane.now.n in
    let o = c.args.o in
    let kp : IsAtMost dot_limit c.dot.result = subst (IsAtMost dot_limit) (sym c.dot.ensures) (dot_size NORMAL WORLD n o c.requires.plane.normal c.requires.origin) in
    let fd : FitsSigned w128 c.args.plane.now.d = fits128 WORLD_OFFSET d (lit< tt) c.requires.plane.offset in
    let fk : FitsSigned w128 c.dot.result = fits128 dot_limit k (lit< tt) kp in
    let p = difference_size WORLD_OFFSET dot_limit d k c.requires.plane.offset kp in
    let f : FitsSigned w128 (c.args.plane.now.d -ℤ c.dot.result) = fits128 (WORLD_OFFSET +ℤ dot_limit) (d -ℤ k) (lit< tt) p in
    simp to_z-of_z f

pub returns-clause-value : goal.returns-clause-value
returns-clause-value c =
    let d = c.args.plane.now.d in
    let k = c.dot.result in
    let n = c.args.plane.now.n in
    let o = c.args.o in
    let kp : IsAtMost dot_limit c.dot.result = subst (IsAtMost dot_limit) (sym c.dot.ensures) (dot_size NORMAL WORLD n o c.requires.plane.normal c.requires.origin) in
    let fd : FitsSigned w128 c.args.plane.now.d = fits128 WORLD_OFFSET d (lit< tt) c.requires.plane.offset in
    let fk : FitsSigned w128 c.dot.result = fits128 dot_limit k (lit< tt) kp in
    let p = difference_size WORLD_OFFSET dot_limit d k c.requires.plane.offset kp in
    let f : FitsSigned w128 (c.args.plane.now.d -ℤ c.dot.result) = fits128 (WORLD_OFFSET +ℤ dot_limit) (d -ℤ k) (lit< tt) p in
    simp to_z-of_z (ap (λ (z : ℤ). d -ℤ z) c.dot.ensures)

pub returns-clause-size : goal.returns-clause-size
returns-clause-size c =
    let d = c.args.plane.now.d in
    let k = c.dot.result in
    let n = c.args.plane.now.n in
    let o = c.args.o in
    let kp : IsAtMost dot_limit c.dot.result = subst (IsAtMost dot_limit) (sym c.dot.ensures) (dot_size NORMAL WORLD n o c.requires.plane.normal c.requires.origin) in
    let fd : FitsSigned w128 c.args.plane.now.d = fits128 WORLD_OFFSET d (lit< tt) c.requires.plane.offset in
    let fk : FitsSigned w128 c.dot.result = fits128 dot_limit k (lit< tt) kp in
    let p = difference_size WORLD_OFFSET dot_limit d k c.requires.plane.offset kp in
    let f : FitsSigned w128 (c.args.plane.now.d -ℤ c.dot.result) = fits128 (WORLD_OFFSET +ℤ dot_limit) (d -ℤ k) (lit< tt) p in
    simp to_z-of_z (omega (arith, ints, p.0, p.1), omega (arith, ints, p.0, p.1))
