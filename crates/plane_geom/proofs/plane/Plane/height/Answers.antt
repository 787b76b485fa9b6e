use Rattle.std.proofs.Common.{FitsSigned, ℤ, ◌-ℤ◌, ap, lit<, ◌*ℤ◌, ◌+ℤ◌, pos, ◌^◌}
use Rattle.std.proofs.lemmas.Int.{to_z-of_z}
use mir.Syntax.{w128}
use Rattle.plane_geom.proofs.Sizes.{difference_size, fits128}
use Rattle.plane_geom.specs.declared.limit.TheConstants.{NORMAL, OFFSET}
use Rattle.plane_geom.proofs.plane.Plane.height.Goals as goal

-- the greatest size of the dot product
abbrev dot_limit : ℤ
dot_limit = pos 3 *ℤ (NORMAL *ℤ pos (2 ^ 63))

pub overflow_sub-result : goal.overflow_sub-result
overflow_sub-result c =
    let d = c.args.self.now.d in
    let k = c.high_dot.result in
    let kp = c.high_dot.ensures.size in
    let fd : FitsSigned w128 c.args.self.now.d = fits128 OFFSET d (lit< tt) c.requires.offset in
    let fk : FitsSigned w128 c.high_dot.result = fits128 dot_limit k (lit< tt) kp in
    let p = difference_size dot_limit OFFSET k d kp c.requires.offset in
    let f : FitsSigned w128 (c.high_dot.result -ℤ c.args.self.now.d) = fits128 (dot_limit +ℤ OFFSET) (k -ℤ d) (lit< tt) p in
    simp to_z-of_z f

pub returns : goal.returns
returns c =
    let d = c.args.self.now.d in
    let k = c.high_dot.result in
    let kp = c.high_dot.ensures.size in
    let fd : FitsSigned w128 c.args.self.now.d = fits128 OFFSET d (lit< tt) c.requires.offset in
    let fk : FitsSigned w128 c.high_dot.result = fits128 dot_limit k (lit< tt) kp in
    let p = difference_size dot_limit OFFSET k d kp c.requires.offset in
    let f : FitsSigned w128 (c.high_dot.result -ℤ c.args.self.now.d) = fits128 (dot_limit +ℤ OFFSET) (k -ℤ d) (lit< tt) p in
    simp to_z-of_z (ap (λ (z : ℤ). z -ℤ d) c.high_dot.ensures.value)
