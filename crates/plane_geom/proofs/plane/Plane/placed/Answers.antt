use Rattle.std.proofs.Common.{FitsSigned, pos, ℤ, ◌+ℤ◌, sym, ap, subst, lit<, ◌*ℤ◌}
use Rattle.std.proofs.lemmas.Int.{to_z-of_z}
use mir.Syntax.{w128}
use Rattle.lattice_core.specs.Limits.{IsAtMost, IsWithin}
use Rattle.lattice_core.proofs.Turning.{turned_within}
use Rattle.plane_geom.proofs.Sizes.{sum_size, dot_size, fits128}
use Rattle.plane_geom.proofs.Placed.{placed_is, keeps_heights}
use Rattle.plane_geom.specs.Planes.{KeepsHeights}
use Rattle.lattice_core.specs.declared.limit.TheConstants.{SHIFT}
use Rattle.plane_geom.specs.declared.limit.TheConstants.{NORMAL, OFFSET}
use Rattle.plane_geom.proofs.plane.Plane.placed.Goals as goal

-- the greatest size of the dot product
abbrev dot_limit : ℤ
dot_limit = pos 3 *ℤ (NORMAL *ℤ SHIFT)

pub dot-requires-clause-normal : goal.dot-requires-clause-normal
dot-requires-clause-normal c =
    subst (IsWithin NORMAL) (sym c.apply-n.ensures.value) (turned_within NORMAL c.args.by.now.turn.number c.args.self.now.n c.args.by.now.turn.in_range c.requires.plane.normal)

pub overflow_add-result : goal.overflow_add-result
overflow_add-result c =
    let d = c.args.self.now.d in
    let k = c.dot.result in
    let n = c.apply-n.result in
    let s = c.args.by.now.shift in
    let small : IsWithin NORMAL c.apply-n.result = subst (IsWithin NORMAL) (sym c.apply-n.ensures.value) (turned_within NORMAL c.args.by.now.turn.number c.args.self.now.n c.args.by.now.turn.in_range c.requires.plane.normal) in
    let kp : IsAtMost dot_limit c.dot.result = subst (IsAtMost dot_limit) (sym c.dot.ensures) (dot_size NORMAL SHIFT n s small c.requires.shift) in
    let fd : FitsSigned w128 c.args.self.now.d = fits128 OFFSET d (lit< tt) c.requires.plane.offset in
    let fk : FitsSigned w128 c.dot.result = fits128 dot_limit k (lit< tt) kp in
    let p = sum_size OFFSET dot_limit d k c.requires.plane.offset kp in
    let f : FitsSigned w128 (c.args.self.now.d +ℤ c.dot.result) = fits128 (OFFSET +ℤ dot_limit) (d +ℤ k) (lit< tt) p in
    simp to_z-of_z f

pub returns-clause-value : goal.returns-clause-value
returns-clause-value c =
    let d = c.args.self.now.d in
    let k = c.dot.result in
    let n = c.apply-n.result in
    let s = c.args.by.now.shift in
    let small : IsWithin NORMAL c.apply-n.result = subst (IsWithin NORMAL) (sym c.apply-n.ensures.value) (turned_within NORMAL c.args.by.now.turn.number c.args.self.now.n c.args.by.now.turn.in_range c.requires.plane.normal) in
    let kp : IsAtMost dot_limit c.dot.result = subst (IsAtMost dot_limit) (sym c.dot.ensures) (dot_size NORMAL SHIFT n s small c.requires.shift) in
    let fd : FitsSigned w128 c.args.self.now.d = fits128 OFFSET d (lit< tt) c.requires.plane.offset in
    let fk : FitsSigned w128 c.dot.result = fits128 dot_limit k (lit< tt) kp in
    let p = sum_size OFFSET dot_limit d k c.requires.plane.offset kp in
    let f : FitsSigned w128 (c.args.self.now.d +ℤ c.dot.result) = fits128 (OFFSET +ℤ dot_limit) (d +ℤ k) (lit< tt) p in
    simp to_z-of_z (placed_is c.args.by.now c.args.self.now n (d +ℤ k) c.apply-n.ensures.value (ap (λ (z : ℤ). d +ℤ z) c.dot.ensures))

pub returns-clause-size : goal.returns-clause-size
returns-clause-size c =
    let d = c.args.self.now.d in
    let k = c.dot.result in
    let n = c.apply-n.result in
    let s = c.args.by.now.shift in
    let small : IsWithin NORMAL c.apply-n.result = subst (IsWithin NORMAL) (sym c.apply-n.ensures.value) (turned_within NORMAL c.args.by.now.turn.number c.args.self.now.n c.args.by.now.turn.in_range c.requires.plane.normal) in
    let kp : IsAtMost dot_limit c.dot.result = subst (IsAtMost dot_limit) (sym c.dot.ensures) (dot_size NORMAL SHIFT n s small c.requires.shift) in
    let fd : FitsSigned w128 c.args.self.now.d = fits128 OFFSET d (lit< tt) c.requires.plane.offset in
    let fk : FitsSigned w128 c.dot.result = fits128 dot_limit k (lit< tt) kp in
    let p = sum_size OFFSET dot_limit d k c.requires.plane.offset kp in
    let f : FitsSigned w128 (c.args.self.now.d +ℤ c.dot.result) = fits128 (OFFSET +ℤ dot_limit) (d +ℤ k) (lit< tt) p in
    record { normal = small; offset = simp to_z-of_z p }

pub returns-clause-heights : goal.returns-clause-heights
returns-clause-heights c =
    subst (KeepsHeights c.args.by.now c.args.self.now) (sym (returns-clause-value c)) (keeps_heights c.args.by.now c.args.self.now c.args.by.now.turn.in_range)
